pub mod AnewLaws
pub mod BranchLaws
pub mod CallLaws
pub mod LearnLaws
pub mod MemoryLaws
pub mod RefusalLaws
pub mod StoredLaws
pub mod StraightLaws
