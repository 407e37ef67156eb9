-- Which JSON value says a pattern, and which one says the patterns of each plural.
-- Defined in docs/compact-text.md, "The JSON form".
-- Cited by `from_json` of `PluralElements` and of `CompactPatterns`.
use Rattle.std.specs.Prelude.{ℕ, ◌==◌, Bool, false, not, ◌&&◌, ◌||◌, List, [], ◌∷◌, cond, codes, length, is_some, Option, None, option_map, option_and_then}
use Rattle.std.specs.List.{list_all, list_any}
use Rattle.std.specs.Option.{option_map_or}
use Rattle.std.specs.Str.{bytes_eq}
use Rattle.serde_json.specs.Data.{Data, Items, no_items, item}
use Rattle.serde_json.specs.Find.{as_array, as_str, at}
use Rattle.icu_decimal_symbols.specs.declared.error.DataError.{DataError}
use Rattle.icu_decimal_patterns.specs.KeptEntries.{Patterns}
use Rattle.icu_decimal_patterns.specs.Pattern.{PatternText, literal, around}

-- the items of an array as a list
abbrev pub listed : Items → List Data
listed no_items = []
listed (item d ds) = d ∷ listed ds

-- an array of so many items
abbrev pub has_count : ℕ → Data → Bool
has_count count d = option_map_or (λ ds. length (listed ds) == count) (as_array d) false

-- ---- a pattern

-- one text is a pattern without a placeholder, and two texts are around one
abbrev pub texts_in : List Data → Option PatternText
texts_in [] = None
texts_in (text ∷ []) = option_map literal (as_str text)
texts_in (before ∷ after ∷ []) = option_and_then (λ b. option_map (λ a. around b a) (as_str after)) (as_str before)
texts_in (before ∷ after ∷ more ∷ rest) = None

abbrev pub pattern_in : Data → Option PatternText
pattern_in d = option_and_then (λ ds. texts_in (listed ds)) (as_array d)

-- ---- slots: an array of a name and a pattern each

abbrev pub slot_name : Data → Option (List ℕ)
slot_name d = option_and_then as_str (at 0 d)

abbrev pub slot_pattern : Data → Option PatternText
slot_pattern d = option_and_then pattern_in (at 1 d)

abbrev pub is_slot_name : List ℕ → Bool
is_slot_name name =
    bytes_eq name (codes "0") || (bytes_eq name (codes "1") || (bytes_eq name (codes "zero") || (bytes_eq name (codes "one")
    || (bytes_eq name (codes "two") || (bytes_eq name (codes "few") || (bytes_eq name (codes "many") || bytes_eq name (codes "other")))))))

abbrev pub is_slot : Data → Bool
is_slot d = has_count 2 d && (option_map_or is_slot_name (slot_name d) false && is_some (slot_pattern d))

abbrev pub is_named : List ℕ → Data → Bool
is_named name d = option_map_or (λ other. bytes_eq other name) (slot_name d) false

-- the pattern of the slot of this name
abbrev pub pattern_named : List ℕ → List Data → Option PatternText
pattern_named name [] = None
pattern_named name (d ∷ ds) = cond (is_named name d) (slot_pattern d) (pattern_named name ds)

-- a name is twice
abbrev pub repeats_name : List Data → Bool
repeats_name [] = false
repeats_name (d ∷ ds) = option_map_or (λ name. list_any (is_named name) ds) (slot_name d) false || repeats_name ds

abbrev pub elements_with : List Data → PatternText → Patterns
elements_with ds other = record {
  explicit_zero = pattern_named (codes "0") ds;
  explicit_one = pattern_named (codes "1") ds;
  zero = pattern_named (codes "zero") ds;
  one = pattern_named (codes "one") ds;
  two = pattern_named (codes "two") ds;
  few = pattern_named (codes "few") ds;
  many = pattern_named (codes "many") ds;
  other = other;
}

-- slots of known names, none twice, with `other` among them
abbrev pub elements_in : List Data → Option Patterns
elements_in ds = cond (list_all is_slot ds && not (repeats_name ds)) (option_map (elements_with ds) (pattern_named (codes "other") ds)) None

abbrev pub slots_of : Data → Option Patterns
slots_of d = option_and_then (λ ds. elements_in (listed ds)) (as_array d)

-- the errors of a reader that knows no other cause
abbrev pub IsCustomOrMemory : DataError → Type 0
IsCustomOrMemory DataError.Custom = Unit {0}
IsCustomOrMemory DataError.Memory = Unit {0}
IsCustomOrMemory _ = ⊥
