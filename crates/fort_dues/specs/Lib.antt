pub mod DueView
