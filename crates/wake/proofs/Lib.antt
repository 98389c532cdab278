pub mod TermsMet
