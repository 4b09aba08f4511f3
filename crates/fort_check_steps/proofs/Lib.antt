pub mod TableLaws
pub mod TargetLaws
pub mod GuessLaws
pub mod HeldTargetLaws
pub mod PairLaws
pub mod PairStepLaws
pub mod MarkLaws
pub mod ListedWalks
pub mod MarkSearch
pub mod PureStates
mod SparseLaws
mod LeftWords
mod KidLaws
mod WideKidLaws
pub mod RoomLaws
