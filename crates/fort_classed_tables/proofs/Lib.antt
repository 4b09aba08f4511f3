pub mod RunLaws
pub mod KidLaws
pub mod PlaceTargets
pub mod MetLaws
pub mod PlaceLaws
pub mod ViewLaws
pub mod TableLaws
