pub mod BlockTable
pub mod CutBlockLaws
