pub mod NumberedLaws
pub mod RowBitLaws
pub mod SkippedBits
pub mod RootPlaceLaws
pub mod BitRowListLaws
pub mod RulePlaceLaws
pub mod SidesListed
pub mod RuleLeftLaws
