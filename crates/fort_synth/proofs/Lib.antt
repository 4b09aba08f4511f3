pub mod FamilyListLaws
pub mod FamilyMembers
pub mod FamilyOrder
pub mod FamilySizes
pub mod FamilyGround
pub mod FamilyLaws
pub mod FamilySteps
pub mod TextNames
pub mod TextPatterns
pub mod TextRules
pub mod CandidateSides
pub mod CandidateSystems
pub mod SearchChoices
pub mod SearchOrder
pub mod SearchOutcomes
mod TreeOrderLaws
