pub mod Questions
pub mod Refusals
pub mod Accepted
pub mod Inputs
