pub mod Wake
pub mod Promise
pub mod Steps
pub mod StepLaws
pub mod CallLaws
