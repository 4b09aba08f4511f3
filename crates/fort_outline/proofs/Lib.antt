pub mod ColumnLaws
pub mod PlaceLaws
pub mod RootKeys
pub mod RootLaws
pub mod UseLaws
pub mod NumberLaws
pub mod OutlineLaws
pub mod JoinedOperands
