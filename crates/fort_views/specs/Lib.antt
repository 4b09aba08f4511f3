pub mod Views
pub mod SymbolViews
pub mod PlaceNumbers
pub mod ViewsStay
pub mod Ranks
