pub mod HeldTargets
pub mod HeldWalks
pub mod Joints
pub mod OperandRows
pub mod Operands
