pub mod KnownSymbols
pub mod ClassViews
