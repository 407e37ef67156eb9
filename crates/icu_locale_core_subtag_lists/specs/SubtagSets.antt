-- A set without one of its texts, whether a set has all of some texts, and what every set of subtags keeps: its texts rise, each a subtag in normal case.
-- UTS 35, section 3.2.1, "Canonical Unicode Locale Identifiers"; docs/tags.md, "Sets and maps".
-- Cited by the calls of `SubtagSet`.
use Rattle.std.specs.Prelude.{ℕ, Bool, not, List, filter}
use Rattle.std.specs.List.{AllByRecursion, list_all}
use Rattle.icu_locale_core_grammar.specs.Subtags.{Text, same_text}
use Rattle.icu_locale_core_grammar.specs.Collections.{Rises, contains_text}
use Rattle.icu_locale_core_grammar.specs.WellFormed.{IsNormalPiece}

-- the set without this text
abbrev pub remove_text : Text → List Text → List Text
remove_text t us = filter (λ u. not (same_text t u)) us

-- each of the texts is in the set
abbrev pub has_all_of : List Text → List Text → Bool
has_all_of us ts = list_all (λ t. contains_text t us) ts

-- each text is accepted and in normal case
abbrev pub AreNormalPieces : (List ℕ → Bool) → (List ℕ → List ℕ) → List Text → Type 0
AreNormalPieces accepts normal ts = AllByRecursion (IsNormalPiece accepts normal) ts

-- the texts rise, and each is accepted and in normal case
pub record IsSubtagSet (accepts : List ℕ → Bool) (normal : List ℕ → List ℕ) (ts : List Text) : Type 0 where
  pub rises : Rises ts
  pub each : AreNormalPieces accepts normal ts
