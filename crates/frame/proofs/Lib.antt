pub mod CallLaws
pub mod FrameLaws
pub mod FrameVectors
pub mod LoopLaws
pub mod ParityLaws
pub mod SaysLaws
pub mod TellLaws
pub mod WrongLaws
