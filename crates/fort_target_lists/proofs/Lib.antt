mod ChainLaws
pub mod ClassListLaws
pub mod ClassRowLaws
pub mod ColumnLaws
mod EntryCounts
mod LaidTargets
pub mod LayLaws
pub mod ListLaws
mod ListingLaws
pub mod LookUpLaws
pub mod PlaceLaws
pub mod StateLists
pub mod SymbolNumbers
pub mod SymbolPlaces
pub mod ToldLaws
pub mod WalkLaws
pub mod WalkSymbols
pub mod WalkTurns
