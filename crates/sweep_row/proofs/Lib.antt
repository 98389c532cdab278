pub mod Carried
pub mod Taking
pub mod Looking
pub mod Turning
pub mod Opening
pub mod RowTurn
