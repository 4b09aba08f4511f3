pub mod SymbolTests
pub mod WordLaws
pub mod KeyLaws
pub mod ProgramLaws
pub mod ViewedStates
