pub mod CountLaws
pub mod LogTable
pub mod OneRecordLaws
pub mod ReadBackLaws
pub mod RecordLaws
