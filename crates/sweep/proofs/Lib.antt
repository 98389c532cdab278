pub mod Kept
pub mod TermsMet
pub mod CallLaws
