pub mod FamilyView
pub mod FamilyLists
pub mod CandidateRules
pub mod SearchAnswers
pub mod SearchSteps
pub mod TextLines
