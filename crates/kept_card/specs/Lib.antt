pub mod KeptCard
pub mod KeptLink
pub mod KeptWhole
pub mod RefusedLaws
