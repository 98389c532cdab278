pub mod SentTable
