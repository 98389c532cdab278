pub mod FrameV
pub mod FrameVLaws
