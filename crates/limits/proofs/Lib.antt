pub mod LimitTable
