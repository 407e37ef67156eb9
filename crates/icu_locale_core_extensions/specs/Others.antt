-- Where an extension goes into a list of extensions by its singleton.
-- UTS 35, section 3.2.1; docs/tags.md, "Normal text".
-- Cited by the search for that place.
use Rattle.std.specs.Prelude.{ℕ, ◌≡◌, ◌≤◌, List, ◌∷◌, ◌++◌, length, take, drop}
use Rattle.icu_locale_core_grammar.specs.Subtags.{Text}
use Rattle.icu_locale_core_grammar.specs.Collections.{Entry, put_first}
use Rattle.icu_locale_core_subtags.specs.declared.step.Step.{Step}
use Rattle.icu_locale_core_subtags.specs.declared.step.Step.TheVariants.{Taken, Refused}

-- one more piece leaves the singleton
abbrev pub KeepsSingleton : Text → Step Entry → Type 0
KeepsSingleton singleton (Taken o) = o.0 ≡ singleton
KeepsSingleton singleton (Refused o) = o.0 ≡ singleton

-- the list has the singleton: nothing is put
abbrev pub IsThere : Text → List Entry → Type 0
IsThere singleton os = (own : List Text) → put_first (singleton, own) os ≡ os

-- an extension of this singleton goes to place i
pub record IsPlaceOf (singleton : Text) (os : List Entry) (i : ℕ) : Type 0 where
  pub fits : i ≤ length os
  pub put : (own : List Text) → put_first (singleton, own) os ≡ take i os ++ (singleton, own) ∷ drop i os
