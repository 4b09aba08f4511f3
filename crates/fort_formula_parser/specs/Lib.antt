pub mod Faults
pub mod ParsedView
pub mod TokenView
pub mod Spellings
pub mod Places
pub mod Parsing
pub mod ExpressionParsing
