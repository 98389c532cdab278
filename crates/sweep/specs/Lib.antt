pub mod Sweep
pub mod Promise
pub mod Shared
