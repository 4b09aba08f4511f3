pub mod NodeTests
pub mod NodeStates
pub mod OpenOutcomeView
pub mod OpenCheckers
