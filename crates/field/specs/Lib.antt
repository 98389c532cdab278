pub mod Merge
pub mod Field
pub mod Calls
pub mod MergeLaws
pub mod JoinLaws
pub mod TakeLaws
pub mod TogetherLaws
pub mod HeardLaws
