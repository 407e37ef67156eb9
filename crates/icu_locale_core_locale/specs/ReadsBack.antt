-- A locale that was read and printed reads back equal.
-- Defined in docs/tags.md, "Laws".
-- Cited by the law of locales.
use Rattle.std.specs.Prelude.{◌≡◌}
use Rattle.icu_locale_core_grammar.specs.declared.error.ParseError.{ParseError}
use Rattle.icu_locale_core_grammar.specs.Subtags.{Text}
use Rattle.icu_locale_core_grammar.specs.Pieces.{pieces}
use Rattle.icu_locale_core_grammar.specs.Meaning.{TagMeaning, MeansTag}
use Rattle.icu_locale_core_grammar.specs.FaultyPiece.{HasFault}
use Rattle.icu_locale_core_grammar.specs.NormalText.{normal_text}

-- the text that was printed means what was printed, and nothing else, and has no fault
pub record ReadsBack (m : TagMeaning) : Type 0 where
  pub means : MeansTag (pieces (normal_text m)) m
  pub alone : (n : TagMeaning) → MeansTag (pieces (normal_text m)) n → n ≡ m
  pub accepted : (e : ParseError) → HasFault MeansTag (pieces (normal_text m)) e → ⊥

-- so it is of every locale that was read
abbrev pub LocalesReadBack : Type 0
LocalesReadBack = (text : Text) (m : TagMeaning) → MeansTag (pieces text) m → ReadsBack m
