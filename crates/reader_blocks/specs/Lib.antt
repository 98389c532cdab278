pub mod ReaderRules
pub mod ReaderFrames
pub mod ReaderLaws
pub mod CaseLaws
