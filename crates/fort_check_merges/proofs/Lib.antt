pub mod MergedTable
pub mod KeptEntries
pub mod LeaderLaws
pub mod Answers
pub mod LedEntries
pub mod Unjoined
pub mod MergedRoom
pub mod RoomTables
