pub mod TargetLaws
pub mod FirstEntryLaws
pub mod MakerLaws
pub mod ReplayLaws
