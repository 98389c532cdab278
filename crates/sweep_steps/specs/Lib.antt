pub mod Steps
pub mod Loop
pub mod FoundLaws
pub mod ExchangeLaws
pub mod LeftLaws
pub mod RunLaws
pub mod LoopLaws
pub mod TermLaws
