pub mod LeafView
pub mod Roots
pub mod Numbered
pub mod Outlines
