pub mod Choices
pub mod ImageFacts
pub mod Scopes
pub mod Strides
