pub mod Text
pub mod Forms
pub mod Declarations
pub mod RuleForms
pub mod GroundForms
pub mod ProblemForms
