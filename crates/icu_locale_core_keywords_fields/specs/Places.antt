-- The place of a key in a list of entries whose keys rise, or the place where it belongs.
-- Defined in docs/tags.md, "Keywords and fields as values".
-- Cited by the search for a key, and by the proofs of the calls that use it.
use Rattle.std.specs.Prelude.{ℕ, suc, ◌≡◌, ◌<◌, ◌≤◌, List, ◌∷◌, ◌++◌, length, take, drop, slice_index_or}
use Rattle.std.specs.List.{AllByRecursion}
use Rattle.std.specs.declared.cmp.Ordering.TheVariants.{Less}
use Rattle.icu_locale_core_grammar.specs.Subtags.{Text}
use Rattle.icu_locale_core_grammar.specs.Collections.{Entry, text_cmp}

-- each entry has a key below this one, and above it
abbrev pub AreBelow : Text → List Entry → Type 0
AreBelow key es = AllByRecursion (λ e. text_cmp e.0 key ≡ Less) es

abbrev pub AreAbove : Text → List Entry → Type 0
AreAbove key es = AllByRecursion (λ e. text_cmp key e.0 ≡ Less) es

-- the entry at place i has this key
pub record IsFoundAt (key : Text) (es : List Entry) (i : ℕ) : Type 0 where
  pub value : List Text
  pub fits : i < length es
  pub at : (d : Entry) → slice_index_or es i d ≡ (key, value)
  pub parts : es ≡ take i es ++ (key, value) ∷ drop (suc i) es
  pub below : AreBelow key (take i es)
  pub above : AreAbove key (drop (suc i) es)

-- no entry has this key, and one belongs at place i
pub record IsMissingAt (key : Text) (es : List Entry) (i : ℕ) : Type 0 where
  pub fits : i ≤ length es
  pub below : AreBelow key (take i es)
  pub above : AreAbove key (drop i es)
