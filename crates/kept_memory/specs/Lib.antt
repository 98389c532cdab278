pub mod KeptMemory
pub mod KeptMemoryLaws
