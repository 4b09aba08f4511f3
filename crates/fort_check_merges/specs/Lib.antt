pub mod MergeAnswers
pub mod GivenMerges
pub mod Leaders
pub mod KeptTargets
