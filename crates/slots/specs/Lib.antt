pub mod Steps
pub mod Inquiry
pub mod Promise
pub mod TermLaws
pub mod StepLaws
pub mod RunLaws
pub mod CallLaws
pub mod Witness
