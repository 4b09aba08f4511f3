pub mod TableLeaders
pub mod ProductKeys
pub mod ProjectionKeys
pub mod ManyKeys
