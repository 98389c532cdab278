pub mod KeptWake
pub mod WakeLaws
