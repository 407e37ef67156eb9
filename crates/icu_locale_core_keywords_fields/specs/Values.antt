-- The value of an entry: its subtags, without `true`.
-- UTS 35, sections 3.2.1 and 3.6; docs/tags.md, "Keywords and fields as values".
-- Cited by the calls of a value, and by the readers of entries.
use Rattle.std.specs.Prelude.{◌≡◌, Bool, false, not, List, [], ◌∷◌, ◌++◌, filter, if◌then◌else◌}
use Rattle.std.specs.List.{AllByRecursion}
use Rattle.icu_locale_core_grammar.specs.Subtags.{Text, is_true, true_text}
use Rattle.icu_locale_core_grammar.specs.Extensions.{has_enough}

-- the subtags but `true`
abbrev pub without_true : List Text → List Text
without_true vs = filter (λ v. not (is_true v)) vs

-- no subtag is `true`
abbrev pub IsWithoutTrue : List Text → Type 0
IsWithoutTrue vs = AllByRecursion (λ v. is_true v ≡ false) vs

-- the value with one more subtag
abbrev pub with_subtag : List Text → Text → List Text
with_subtag vs v = if is_true v then vs else vs ++ v ∷ []

-- what is written of a value: `true` where the entry needs a value and has none
abbrev pub shown_value : Bool → List Text → List Text
shown_value needs vs = if has_enough needs vs then vs else true_text ∷ []
