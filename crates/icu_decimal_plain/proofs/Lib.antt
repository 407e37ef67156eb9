pub mod ComparingLemmas
pub mod DigitChunkLemmas
pub mod EventPartLemmas
pub mod HintLemmas
pub mod KnownParts
pub mod KnownValues
pub mod PartLemmas
pub mod PieceLemmas
pub mod PlainTextLemmas
pub mod RunLemmas
pub mod SeparatorLemmas
pub mod ShortRunLemmas
pub mod TextLemmas
-- Lemmas on groups, for the crates above.
pub use Rattle.icu_decimal_grouping.proofs.GrouperLemmas
