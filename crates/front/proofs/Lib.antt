pub mod CallLaws
pub mod FrontTable
pub mod HalfLaws
pub mod LoopLaws
