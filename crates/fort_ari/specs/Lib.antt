pub mod Parts
pub mod Numbers
pub mod Faults
pub mod Reading
pub mod Grounds
pub mod SideForms
pub mod NameSets
