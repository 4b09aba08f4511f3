pub mod ConnectiveView
