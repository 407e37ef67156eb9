-- Lemmas on preferences and data locales.
pub mod DataTextLemmas
pub mod KeywordLemmas
pub mod KnownTruncations
pub mod KnownValues
pub mod LawLemmas
-- Lemmas on the grammar, for the crates above.
pub use Rattle.icu_locale_core_grammar.proofs.CallerLemmas
pub use Rattle.icu_locale_core_grammar.proofs.CaseLemmas
pub use Rattle.icu_locale_core_grammar.proofs.DataFaults
pub use Rattle.icu_locale_core_grammar.proofs.FaultyPieceLemmas
pub use Rattle.icu_locale_core_grammar.proofs.NormalTags
pub use Rattle.icu_locale_core_grammar.proofs.PlainPieces
pub use Rattle.icu_locale_core_grammar.proofs.SameLemmas
pub use Rattle.icu_locale_core_grammar.proofs.SingleTags
pub use Rattle.icu_locale_core_grammar.proofs.TagReader
