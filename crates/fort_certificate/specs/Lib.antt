pub mod Lines
pub mod VersionView
pub mod Again
pub mod Faults
pub mod ReadView
pub mod Checking
pub mod NodeChecking
pub mod OpenWriting
