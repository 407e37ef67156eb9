-- What a reader must believe.
pub mod EntryKind
pub mod Values
pub mod EntryText
pub mod Lends
pub mod EntryChanges
pub mod Retained
pub mod Orders
pub mod Steps
pub mod HeadedView
pub mod Allocation
-- The place of a key in a map, for the proofs.
pub mod Places
-- What the comparisons of this crate prove.
pub mod OrderLaws
-- Statements of laws.
pub mod Laws
