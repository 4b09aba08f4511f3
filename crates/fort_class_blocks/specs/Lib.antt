pub mod Blocks
pub mod Shapes
pub mod BlocksInside
pub mod KeptBlocks
