pub mod NtaView
pub mod Copies
pub mod Trimmed
pub mod PatternMoves
pub mod InhabitedStates
pub mod Marks
