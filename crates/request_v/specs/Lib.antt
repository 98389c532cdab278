pub mod Flags
pub mod Inventory
pub mod InventoryLaws
pub mod Request
