pub mod OneRuleLaws
pub mod AllNormalLaws
pub mod NodeStateLaws
pub mod OverCaps
pub mod DifferenceLaws
pub mod ClosedTruths
pub mod WrittenAnswers
