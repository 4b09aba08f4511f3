pub mod PassesLaws
pub mod ClosureLaws
pub mod CountLaws
pub mod AnswerLaws
pub mod RecordLaws
