pub mod Saturation
pub mod ClosureFound
pub mod AllLabels
pub mod LabelTables
pub mod LabelBounds
pub mod WellFormedParts
pub mod AnswersExist
