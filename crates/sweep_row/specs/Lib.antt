pub mod Row
pub mod SeenLaws
pub mod Under
pub mod TurnLaws
pub mod PadLaws
pub mod FieldLaws
pub mod ArrayLaws
