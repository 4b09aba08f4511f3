pub mod TargetColumns
pub mod ColumnLeaders
pub mod CountedTables
pub mod PlaceLeaders
pub mod MakingViews
pub mod TableViews
