pub mod RootStepsLaws
pub mod InverseLaws
pub mod TakesAlong
pub mod BesideLaws
pub mod MoreMovesLaws
pub mod SizesLaws
pub mod UnionLaws
