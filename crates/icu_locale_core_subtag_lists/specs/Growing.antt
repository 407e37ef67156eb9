-- A set that is being read: its texts in the order in which they came, those after the first few also in byte order.
-- Defined in docs/tags.md, "Sets and lists as values".
-- Cited by the calls of `GrowingSet`.
use Rattle.std.specs.Prelude.{◌≡◌, ℕ, Bool, List, drop}
use Rattle.icu_locale_core_grammar.specs.Subtags.{Text}
use Rattle.icu_locale_core_grammar.specs.Collections.{AreApart, set_of}
use Rattle.icu_locale_core_subtag_lists.specs.SubtagSets.{AreNormalPieces}

-- how many of the texts are looked through one by one
abbrev pub few : ℕ
few = 16

-- the texts differ, each is accepted and in normal case, and those after the first few are known in byte order
pub record IsGrowing (accepts : List ℕ → Bool) (normal : List ℕ → List ℕ) (items known : List Text) : Type 0 where
  pub each : AreNormalPieces accepts normal items
  pub apart : AreApart items
  pub searched : known ≡ set_of (drop few items)
