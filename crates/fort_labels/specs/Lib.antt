pub mod RowsView
pub mod RowsInside
