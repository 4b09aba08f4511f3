pub mod MaskedWords
pub mod AskedMarks
pub mod AskedTerms
pub mod AskedPlaces
pub mod AskedFacts
pub mod SideView
pub mod MarkKeysView
pub mod TermKeysView
