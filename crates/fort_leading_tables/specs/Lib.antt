pub mod EntryNumbers
pub mod FirstEntries
pub mod LeadingMaking
pub mod Replays
