pub mod ProjectionViews
pub mod ViewedPlaces
