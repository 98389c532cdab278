pub mod Log
pub mod Calls
pub mod Reading
pub mod PackLaws
pub mod EntryLaws
pub mod UnpackLaws
pub mod BitBackLaws
