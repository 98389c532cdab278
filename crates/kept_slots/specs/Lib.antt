pub mod KeptSlots
pub mod SlotsLaws
pub mod EndLaws
