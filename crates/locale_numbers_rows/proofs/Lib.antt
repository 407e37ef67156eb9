pub mod EnglishLemmas
