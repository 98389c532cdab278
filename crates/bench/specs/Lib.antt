pub mod Lines
pub mod Words
pub mod LineLaws
pub mod WordLaws
