pub mod SymbolCounts
pub mod StateFacts
pub mod Fronts
pub mod Making
pub mod MakerInside
pub mod DtaInside
pub mod OtherFinals
pub mod TableParts
