pub mod Negations
