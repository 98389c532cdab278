pub mod Known
pub mod Stage
pub mod Claimed
pub mod Example
