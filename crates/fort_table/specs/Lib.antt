pub mod EntryListFacts
