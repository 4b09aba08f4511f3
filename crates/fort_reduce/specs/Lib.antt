pub mod Walks
pub mod Merging
pub mod MergedTables
pub mod Finding
pub mod Fronts
