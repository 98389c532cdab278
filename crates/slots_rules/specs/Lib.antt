pub mod RunB
pub mod TermsB
pub mod Claim
pub mod Example
