pub mod Picked
pub mod Choices
pub mod LeaderStates
pub mod Turns
pub mod LeadingPlaces
pub mod LeadingFacts
