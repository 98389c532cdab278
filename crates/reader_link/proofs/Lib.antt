mod CallLaws
pub mod SaysLaws
