pub mod FrontLaws
pub mod MakingLaws
pub mod FinishLaws
pub mod FirstEntryLaws
pub mod GiveLaws
pub mod OtherFinalsLaws
mod PartLaws
