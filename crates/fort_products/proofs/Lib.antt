pub mod HoldLaws
mod JointLaws
mod ListedLaws
mod OperandEntries
