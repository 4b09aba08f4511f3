pub mod AnswerView
pub mod Kept
pub mod Deciding
pub mod Found
pub mod Closures
pub mod ClassedView
