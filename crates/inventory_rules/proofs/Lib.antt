pub mod ClaimLaws
pub mod CountLaws
pub mod FlagLaws
pub mod MaskLaws
pub mod RoundLaws
pub mod SlotLaws
pub mod SweepLaws
