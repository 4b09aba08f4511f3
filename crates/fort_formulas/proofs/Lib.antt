pub mod CoreShapes
pub mod CoreMembers
pub mod ArgumentLaws
pub mod FormulaIndices
pub mod FormulaTerminations
