mod KnownForms
mod KnownIdentifiers
mod KnownTables
mod KnownValues
mod ShownRowLemmas
pub mod ChainLoadingLemmas
pub mod ChoiceLemmas
pub mod CompactLawLemmas
pub mod CompactTextLemmas
pub mod ExactLemmas
pub mod SameLemmas
pub mod ShownLemmas
pub mod WritingLemmas
-- Lemmas on the text of a number and on what a table keeps, for the crates above.
pub use Rattle.icu_decimal_patterns.proofs.KeptLemmas
pub use Rattle.icu_decimal_plain.proofs.TextLemmas
