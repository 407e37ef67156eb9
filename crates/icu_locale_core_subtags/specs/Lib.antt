-- What a reader must believe.
pub mod SubtagRule
pub mod PiecesLeft
pub mod RawSubtag
pub mod JsonText
pub mod Steps
-- What the rules of this crate prove.
pub mod RuleLaws
