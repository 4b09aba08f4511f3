pub mod MadeNames
pub mod MadeRules
