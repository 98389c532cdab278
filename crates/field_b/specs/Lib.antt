pub mod FieldB
pub mod CallsB
pub mod TakeBLaws
