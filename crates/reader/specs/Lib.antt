pub mod Reader
pub mod Calls
pub mod ReaderLaws
pub mod SakLevelLaws
pub mod StepLaws
pub mod CollisionLaws
pub mod FrameLaws
pub mod KnownLaws
