pub mod CardLaws
pub mod ElseLaws
pub mod ReadyLaws
pub mod RulesLaws
pub mod StateLaws
pub mod WrongLaws
