pub mod TextWords
pub mod TextLines
pub mod WrittenWords
pub mod Fronts
pub mod Again
