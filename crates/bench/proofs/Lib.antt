pub mod AllWordsLaws
