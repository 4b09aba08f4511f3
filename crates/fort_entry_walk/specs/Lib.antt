pub mod Walks
pub mod KidPairs
pub mod WalkPlaces
pub mod Candidates
pub mod WalkFacts
pub mod EntriesView
pub mod EntriesInside
