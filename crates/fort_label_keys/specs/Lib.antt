pub mod ViewKeys
