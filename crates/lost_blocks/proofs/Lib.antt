mod LostRuns
pub mod LossLaws
pub mod LostLaws
pub mod NoLossLaws
pub mod Places
pub mod PromiseLaws
pub mod RoundLaws
pub mod RowLossLaws
pub mod RowLostLaws
