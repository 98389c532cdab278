pub mod Card
pub mod Calls
pub mod TakenLaws
pub mod RatsLaws
pub mod SaysLaws
