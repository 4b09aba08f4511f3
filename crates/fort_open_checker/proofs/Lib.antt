pub mod NodeTestLaws
pub mod NodeStateLaws
pub mod JudgeLaws
pub mod OpenLaws
pub mod OpenTruths
