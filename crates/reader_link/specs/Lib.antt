pub mod ReaderCalls
pub mod ReaderSays
pub mod ReaderRowLaws
pub mod WholeLaws
pub mod BitsLaws
