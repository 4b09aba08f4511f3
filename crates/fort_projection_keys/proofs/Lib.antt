pub mod WordLists
pub mod PlaceLaws
pub mod MemberLaws
pub mod PartLaws
pub mod KeyLaws
