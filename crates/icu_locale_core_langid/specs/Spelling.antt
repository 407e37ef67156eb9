-- When pieces spell a language identifier that is given: part by part, whatever the case, the variants in any order.
-- Defined in docs/tags.md, "Language identifiers as values"; that these are the pieces which mean it is proved.
-- Cited by the private calls of `LanguageIdentifier::normalizing_eq`.
use Rattle.std.specs.Prelude.{◌≡◌, ℕ, ◌<◌, Bool, true, false, List, ◌++◌, length, map, slice_index_or}
use Rattle.icu_locale_core_grammar.specs.Subtags.{Text, is_variant, lower}
use Rattle.icu_locale_core_grammar.specs.Collections.{AreApart, contains_text, set_of}
use Rattle.icu_locale_core_subtag_lists.specs.SubtagSets.{IsSubtagSet}

-- the pieces begin with these texts but for case, and `rest` is after them
pub record IsAfter (ts ps rest : List Text) : Type 0 where
  pub front : List Text
  pub parts : ps ≡ front ++ rest
  pub same : map lower front ≡ map lower ts

-- the result of a call that takes these texts from the pieces
abbrev pub Takes : Bool → List Text → List Text → List Text → Type 0
Takes true ts ps left = IsAfter ts ps left
Takes false ts ps left = (rest : List Text) → IsAfter ts ps rest → ⊥

-- these pieces are apart, and the set of them is given
pub record SpellsSet (ps set : List Text) : Type 0 where
  pub apart : AreApart (map lower ps)
  pub same : set_of (map lower ps) ≡ set

-- ---- the tests of it

-- the texts are variants in lower case, and rise
abbrev pub IsVariantSet : List Text → Type 0
IsVariantSet vs = IsSubtagSet is_variant lower vs

-- the text is at i
pub record IsAt (t : Text) (us : List Text) (i : ℕ) : Type 0 where
  pub within : i < length us
  pub there : (d : Text) → slice_index_or us i d ≡ t

-- the text is one of the pieces
abbrev pub stands_in : List Text → Text → Bool
stands_in ps v = contains_text (lower v) (map lower ps)
