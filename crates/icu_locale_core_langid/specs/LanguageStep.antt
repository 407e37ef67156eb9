-- What a reader of language parts has taken when it stops.
-- Defined in docs/tags.md, "Stages".
-- Cited by the functions that read language identifiers piece by piece.
use Rattle.std.specs.Prelude.{◌≡◌, Bool, true, false, List, [], ◌∷◌, ◌++◌, Option, None, Some}
use Rattle.icu_locale_core_grammar.specs.Subtags.{Text}
use Rattle.icu_locale_core_grammar.specs.LanguagePart.{LanguageId}
use Rattle.icu_locale_core_grammar.specs.Stepping.{run}
use Rattle.icu_locale_core_grammar.specs.TagStages.{language_after, with_piece}

-- no piece is left, or the stage does not go on with the first
abbrev pub IsStuck : Option LanguageId → List Text → Type 0
IsStuck s [] = Unit {0}
IsStuck s (p ∷ rest) = language_after s p ≡ None

-- the steps of a language part took all but `rest`, and stopped there at the stage s
pub record StopsWith (ps : List Text) (s : Option LanguageId) (rest : List Text) : Type 0 where
  pub taken : List Text
  pub parts : ps ≡ taken ++ rest
  pub reached : run language_after (Some None) taken ≡ Some s
  pub stuck : IsStuck s rest

-- one more piece after a language: the stage after it where it fits, and else the stage as it was
abbrev pub PutsPiece : LanguageId → Text → LanguageId → Bool → Type 0
PutsPiece was p now true = with_piece was p ≡ Some now
PutsPiece was p now false = (with_piece was p ≡ None) × (now ≡ was)

-- the steps from the stage `was` took all but `rest`, and stopped there at the stage `now`
pub record StopsAfter (was : LanguageId) (ps : List Text) (now : LanguageId) (rest : List Text) : Type 0 where
  pub taken : List Text
  pub parts : ps ≡ taken ++ rest
  pub reached : run language_after (Some (Some was)) taken ≡ Some (Some now)
  pub stuck : IsStuck (Some now) rest
