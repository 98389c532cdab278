pub mod Reads
pub mod Loops
pub mod ReadLaws
pub mod WalkLaws
pub mod ReplayLaws
