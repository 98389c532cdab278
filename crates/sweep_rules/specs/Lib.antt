pub mod Run
pub mod RunLaws
pub mod Terms
pub mod TermTable
pub mod Demand
