pub mod KeptField
pub mod FieldLaws
pub mod SweptLaws
