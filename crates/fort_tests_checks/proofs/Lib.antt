pub mod CheckedFormulaLaws
