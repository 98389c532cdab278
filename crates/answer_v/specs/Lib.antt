pub mod Heard
pub mod Says
pub mod HeardLaws
