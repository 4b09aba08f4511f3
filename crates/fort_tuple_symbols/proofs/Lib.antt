pub mod DigitNumberLaws
pub mod NumberPlaceLaws
pub mod SymbolLaws
pub mod SymbolNumberLaws
pub mod SymbolSetLaws
pub mod Bounds
pub mod RowRoom
pub mod SetLaws
