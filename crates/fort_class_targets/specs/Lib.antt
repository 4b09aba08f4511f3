pub mod LedBodies
pub mod FilledBlocks
pub mod NumberedViews
pub mod TakenViews
pub mod SymbolBlocks
