pub mod AgttView
pub mod RootSteps
pub mod Unions
pub mod UnionStates
pub mod MoreMoves
pub mod Sizes
