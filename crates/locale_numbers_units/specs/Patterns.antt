-- The pattern of an entry of units: two texts or six, and in each two texts together the place of the unit, once.
-- Defined in docs/books.md, "Units".
-- Cited by the reading of percents, currencies and accounts.
use Rattle.std.specs.Prelude.{ℕ, ◌+◌, ◌==◌, Bool, cond, ◌&&◌, ◌||◌, List, [], ◌∷◌, drop, Option, None, Some, is_some, option_and_then, option_map, if◌then◌else◌}
use Rattle.serde_json.specs.Data.{Data}
use Rattle.serde_json.specs.Find.{as_str}
use Rattle.icu_dimension.specs.UnitPatterns.{AffixesText, PatternTexts}
use Rattle.icu_dimension.specs.UnitPlaces.{begins_with_second, places}
use Rattle.icu_dimension.specs.declared.UnitPlace.TheVariants.{Before, After}
use Rattle.locale_numbers_tables.specs.Entries.{field_at, has_count, is_text_at}
use Rattle.locale_numbers_tables.specs.Fields.{plain_text_in}
use Rattle.locale_numbers_units.specs.OwnSymbols.{is_null}

-- ---- the place of the unit

-- what is before the first place in a text, and what is after it
abbrev pub before_place : List ℕ → List ℕ
before_place [] = []
before_place (b ∷ bs) = cond (b == 194 && begins_with_second bs) [] (b ∷ before_place bs)

abbrev pub after_place : List ℕ → List ℕ
after_place [] = []
after_place (b ∷ bs) = cond (b == 194 && begins_with_second bs) (drop 1 bs) (after_place bs)

-- the texts before and after a number, cut at the place, which is in one of them
abbrev pub cut : List ℕ → List ℕ → AffixesText
cut before after =
    cond (places before == 0)
    (record { place = After; first = before; second = before_place after; third = after_place after })
    (record { place = Before; first = before_place before; second = after_place before; third = after })

-- where the place is there once
abbrev pub affixes_of : List ℕ → List ℕ → Option AffixesText
affixes_of before after = if places before + places after == 1 then Some (cut before after) else None

-- ---- patterns

-- the texts at two places of a pattern
abbrev pub affixes_at : ℕ → ℕ → Data → Option AffixesText
affixes_at first second pattern = option_and_then
    (λ before. option_and_then (λ after. affixes_of before after) (field_at as_str second pattern))
    (field_at as_str first pattern)

-- two texts: without a sign, and a sign around them
abbrev pub two_texts_in : Data → Option PatternTexts
two_texts_in pattern = option_map (λ unsigned. record { unsigned = unsigned; minus = None; plus = None }) (affixes_at 0 1 pattern)

-- six: without a sign, with a minus, with a plus
abbrev pub six_texts_in : Data → Option PatternTexts
six_texts_in pattern = option_and_then
    (λ unsigned. option_and_then
    (λ minus. option_map (λ plus. record { unsigned = unsigned; minus = Some minus; plus = Some plus }) (affixes_at 4 5 pattern))
    (affixes_at 2 3 pattern))
    (affixes_at 0 1 pattern)

abbrev pub pattern_in : Data → Option PatternTexts
pattern_in pattern = if has_count 6 pattern then six_texts_in pattern else two_texts_in pattern

-- a pattern, or none for null
abbrev pub pattern_or_null_in : Data → Option (Option PatternTexts)
pattern_or_null_in pattern = if is_null pattern then Some None else option_map (λ texts. Some texts) (pattern_in pattern)

-- ---- their faults

-- two texts or six
abbrev pub has_pattern_shape : Data → Bool
has_pattern_shape pattern =
    (has_count 2 pattern || has_count 6 pattern && is_text_at 2 pattern && is_text_at 3 pattern && is_text_at 4 pattern && is_text_at 5 pattern)
    && is_text_at 0 pattern && is_text_at 1 pattern

abbrev pub is_plain_at : ℕ → Data → Bool
is_plain_at place pattern = is_some (field_at plain_text_in place pattern)

-- no tab and no line feed is in a text
abbrev pub is_plain_pattern : Data → Bool
is_plain_pattern pattern =
    (has_count 2 pattern || is_plain_at 2 pattern && is_plain_at 3 pattern && is_plain_at 4 pattern && is_plain_at 5 pattern)
    && is_plain_at 0 pattern && is_plain_at 1 pattern

-- the same of a pattern or null
abbrev pub or_null : (Data → Bool) → Data → Bool
or_null holds pattern = is_null pattern || holds pattern
