-- The entries of the categories of ranges: what an entry says, and what is wrong with it.
-- Defined in docs/books.md, "More" and "Faults"; ranges in docs/plurals.md.
-- Cited by the reading of an entry, and by Plurals.antt.
use Rattle.std.specs.Prelude.{List, [], ◌∷◌, Bool, ◌&&◌, Option, None, is_some, option_map, option_and_then, if◌then◌else◌}
use Rattle.serde_json.specs.Data.{Data}
use Rattle.serde_json.specs.Find.{as_array}
use Rattle.icu_locale_core.specs.TagPreferences.{DataLocaleMeaning}
use Rattle.icu_decimal.specs.declared.plurals.PluralCategory.{PluralCategory}
use Rattle.icu_plurals.specs.declared.PluralRange.{PluralRange}
use Rattle.locale_numbers_faults.specs.declared.BookError.{BookError}
use Rattle.locale_numbers_faults.specs.declared.BookError.TheVariants.{Shape, Tag}
use Rattle.locale_numbers_tables.specs.Entries.{all_of, field_at, has_count, is_text_at}
use Rattle.locale_numbers_tables.specs.Faults.{first_broken, has_locale}
use Rattle.locale_numbers_tables.specs.RulesEntries.{category_in, rules_key}

abbrev pub range_of : PluralCategory → PluralCategory → PluralCategory → PluralRange
range_of start end result = record { start = start; end = end; result = result }

-- three words: the categories of two ends, and that of their range
abbrev pub range_in : Data → Option PluralRange
range_in item =
    if has_count 3 item
    then option_and_then (λ start. option_and_then (λ end. option_map (range_of start end) (field_at category_in 2 item)) (field_at category_in 1 item)) (field_at category_in 0 item)
    else None

-- an array of them
abbrev pub ranges_in : Data → Option (List PluralRange)
ranges_in field = option_and_then (all_of range_in) (as_array field)

-- the locale and its ranges
abbrev pub ranges_entry : Data → Option (DataLocaleMeaning × List PluralRange)
ranges_entry entry = option_and_then
    (λ locale. option_map {T = List PluralRange} {U = DataLocaleMeaning × List PluralRange} (λ ranges. (locale, ranges)) (field_at ranges_in 1 entry)) (rules_key entry)

-- a text, and an array of ranges
abbrev pub has_ranges_shape : Data → Bool
has_ranges_shape entry = has_count 2 entry && is_text_at 0 entry && is_some (field_at ranges_in 1 entry)

abbrev pub ranges_fault : Data → Option BookError
ranges_fault entry = first_broken ((Shape, has_ranges_shape entry) ∷ (Tag, has_locale entry) ∷ [])
