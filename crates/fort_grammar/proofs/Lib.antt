pub mod Bytes
pub mod OneReading
pub mod GroundTexts
