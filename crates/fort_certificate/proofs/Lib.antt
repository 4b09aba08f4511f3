pub mod LineLaws
pub mod ValueLaws
pub mod SlotLaws
pub mod HeaderLaws
pub mod StepsLaws
pub mod FaultLaws
pub mod BuildLaws
pub mod WrongLaws
mod NumberWords
mod SmallLaws
pub mod NodeLaws
pub mod OpenHeaderLaws
pub mod OpenReadLaws
pub mod SpelledSteps
pub mod OpenAgain
