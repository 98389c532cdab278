pub mod DeedTable
pub mod RequestLaws
