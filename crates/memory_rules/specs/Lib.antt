pub mod Run
pub mod Count
pub mod Promise
