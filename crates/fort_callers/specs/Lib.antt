pub mod OneRule
pub mod AllNormal
pub mod NodeStates
pub mod Differences
pub mod DecideWords
