pub mod ClaimLaws
pub mod SlotLaws
pub mod StepLaws
