pub mod RowBits
pub mod NumberedView
pub mod RootPlaces
pub mod BitRowLists
pub mod RulePlaces
pub mod RuleLefts
