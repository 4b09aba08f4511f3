pub mod ClassStates
pub mod ProductKeyLaws
pub mod RowLaws
pub mod ChoiceLaws
pub mod SaidStates
pub mod ProjectionKeyLaws
pub mod ManyChoices
pub mod ManyKeyLaws
