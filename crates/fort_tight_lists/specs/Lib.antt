pub mod Slices
pub mod Picks
pub mod TightViews
pub mod TightPlaces
pub mod TightSymbols
pub mod TightLists
