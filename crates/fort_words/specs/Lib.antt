pub mod CommandLine
pub mod Matches
pub mod RequestView
pub mod RowView
