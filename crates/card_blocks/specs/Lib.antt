pub mod CardRules
pub mod CardFrames
pub mod CardLaws
pub mod CaseLaws
