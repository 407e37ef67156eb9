-- What a reader must believe.
pub mod TypedKeywords
pub mod KeywordWords
pub mod OwnWords
-- What the impls of this crate prove.
pub mod WordLaws
