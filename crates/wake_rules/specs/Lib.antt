pub mod Wake
pub mod Claim
