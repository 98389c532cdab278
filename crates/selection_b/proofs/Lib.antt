pub mod FrameBTable
pub mod SentBLaws
pub mod TypeBLaws
