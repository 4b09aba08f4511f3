pub mod RecordedView
pub mod Recording
