pub mod KeptReaderB
pub mod KeptReaderBLaws
pub mod KeptCardB
pub mod KeptCardBLaws
