pub mod Formulas
pub mod Truth
pub mod FreeNames
pub mod Mentions
pub mod Terminations
pub mod Translation
pub mod KeepsTruth
