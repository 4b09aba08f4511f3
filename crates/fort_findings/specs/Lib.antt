pub mod FindingView
