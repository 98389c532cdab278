pub mod KeptCardLaws
pub mod KeptLinkLaws
pub mod KeptWholeLaws
