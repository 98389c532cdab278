pub mod Row
pub mod ArrayLaws
