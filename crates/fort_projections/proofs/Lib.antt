mod BitSearch
pub mod ChoiceSearch
mod FinalSearch
mod FlatSearch
mod ImageLaws
mod ImagesKept
mod LabelWritten
pub mod ProjectEntries
mod PureSearch
mod ScopeLaws
