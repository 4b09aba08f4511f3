pub mod FirstAboveLaws
pub mod RexShapes
