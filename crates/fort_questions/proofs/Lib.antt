pub mod FormulaRefusals
pub mod Fitting
pub mod PlainFormats
pub mod InputLines
