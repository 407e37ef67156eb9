pub mod EnglishLines
pub mod Shouting
