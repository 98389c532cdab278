pub mod CardCalls
pub mod CardSays
pub mod CardRowLaws
pub mod StayLaws
pub mod WholeLaws
