pub mod BlockLaws
pub mod CellLaws
pub mod PutLaws
pub mod CombinationLaws
pub mod FillingLaws
