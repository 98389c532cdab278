pub mod Memory
pub mod Stored
pub mod Calls
pub mod EnterLaws
pub mod LevelReadLaws
