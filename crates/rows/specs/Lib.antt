pub mod Rows
pub mod HeardLaws
pub mod ListLaws
pub mod EachLaws
pub mod CleanLaws
