pub mod SliceLaws
pub mod RenumberLaws
pub mod PickLaws
pub mod TightViewLaws
pub mod PlacesLaws
pub mod TightSymbolLaws
pub mod TightListLaws
