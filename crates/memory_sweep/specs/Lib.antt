pub mod Recalled
pub mod Promise
