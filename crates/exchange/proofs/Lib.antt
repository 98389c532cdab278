mod Runs
pub mod ExchangeLaws
pub mod OpenLaws
pub mod RowExchangeLaws
pub mod RunLaws
