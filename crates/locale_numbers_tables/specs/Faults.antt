-- What is wrong with an array of a book: the first faulty entry decides, and in an entry the first rule that is broken.
-- Defined in docs/books.md, "Faults".
-- Cited by `Book::from_json`, through Form.antt of `locale_numbers_book`.
-- There are four kinds of entries, and the fields and the key of each are imported.
use Rattle.std.specs.Prelude.{Bool, false, ◌&&◌, List, [], ◌∷◌, ◌++◌, Option, None, Some, is_some, not, option_to_list, if◌then◌else◌}
use Rattle.std.specs.List.{list_any}
use Rattle.std.specs.Option.{option_or}
use Rattle.std.specs.Str.{bytes_eq}
use Rattle.serde_json.specs.Data.{Data, Items, no_items, item}
use Rattle.icu_decimal.specs.Reading.{rules_of}
use Rattle.locale_numbers_faults.specs.declared.BookError.{BookError}
use Rattle.locale_numbers_faults.specs.declared.BookError.TheVariants.{Shape, Tag, System, Text, Digits, Condition, Types, Exponents, Duplicate}
use Rattle.locale_numbers_tables.specs.Fields.{locale_in, system_in, system_or_none_in, digits_in}
use Rattle.locale_numbers_tables.specs.Entries.{has_count, field_at, is_text_at, entry_key, grouping_sizes_of, has_texts, digits_key}
use Rattle.locale_numbers_tables.specs.RulesEntries.{conditions_in, conditions_of, rules_key}
use Rattle.locale_numbers_tables.specs.CompactEntries.{rows_in, zero_in, has_plain_patterns, rise_from, rows_of, compact_of}
use Rattle.locale_numbers_tables.specs.Keys.{same_data_locale, same_key}

-- faults, each with the rule whose break it is: the first one whose rule is broken
abbrev pub first_broken : List (BookError × Bool) → Option BookError
first_broken [] = None
first_broken ((fault, holds) ∷ rest) = if holds then first_broken rest else Some fault

-- ---- entries of symbols

-- twelve fields: nine texts and three sizes
abbrev pub has_symbols_shape : Data → Bool
has_symbols_shape entry =
    has_count 12 entry && is_text_at 0 entry && is_text_at 1 entry && is_text_at 2 entry && is_text_at 3 entry && is_text_at 4 entry
    && is_text_at 5 entry && is_text_at 6 entry && is_text_at 7 entry && is_text_at 8 entry && is_some (grouping_sizes_of entry)

abbrev pub has_locale : Data → Bool
has_locale entry = is_some (field_at locale_in 0 entry)

abbrev pub has_systems : Data → Bool
has_systems entry = is_some (field_at system_or_none_in 1 entry) && is_some (field_at system_in 2 entry)

abbrev pub symbols_fault : Data → Option BookError
symbols_fault entry = first_broken (
    (Shape, has_symbols_shape entry)
    ∷ (Tag, has_locale entry)
    ∷ (System, has_systems entry)
    ∷ (Text, has_texts entry)
    ∷ [])

-- ---- entries of digits

-- two texts
abbrev pub has_digits_shape : Data → Bool
has_digits_shape entry = has_count 2 entry && is_text_at 0 entry && is_text_at 1 entry

abbrev pub digits_fault : Data → Option BookError
digits_fault entry = first_broken (
    (Shape, has_digits_shape entry)
    ∷ (System, is_some (digits_key entry))
    ∷ (Digits, is_some (field_at digits_in 1 entry))
    ∷ [])

-- ---- entries of plural rules

-- a text, and an array of categories with a text each
abbrev pub has_rules_shape : Data → Bool
has_rules_shape entry = has_count 2 entry && is_text_at 0 entry && is_some (field_at conditions_in 1 entry)

abbrev pub rules_fault : Data → Option BookError
rules_fault entry = first_broken (
    (Shape, has_rules_shape entry)
    ∷ (Tag, has_locale entry)
    ∷ (Condition, is_some (rules_of (conditions_of entry)))
    ∷ [])

-- ---- entries of patterns

-- two texts, an array of types, and slots or null
abbrev pub has_compact_shape : Data → Bool
has_compact_shape entry =
    has_count 4 entry && is_text_at 0 entry && is_text_at 1 entry && is_some (field_at rows_in 2 entry) && is_some (field_at zero_in 3 entry)

abbrev pub compact_fault : Data → Option BookError
compact_fault entry = first_broken (
    (Shape, has_compact_shape entry)
    ∷ (Tag, has_locale entry)
    ∷ (System, is_some (field_at system_or_none_in 1 entry))
    ∷ (Text, has_plain_patterns entry)
    ∷ (Types, rise_from 0 (rows_of entry))
    ∷ (Exponents, is_some (compact_of entry))
    ∷ [])

-- ---- an array

-- the key is one of these
abbrev pub is_among : {K : Type 0} → (K → K → Bool) → List K → Option K → Bool
is_among same keys None = false
is_among same keys (Some key) = list_any (same key) keys

-- the fault of the first faulty entry, where entries with these keys are before
abbrev pub first_fault_after : {K : Type 0} → (K → K → Bool) → (Data → Option K) → (Data → Option BookError) → List K → Items → Option BookError
first_fault_after same key fault before no_items = None
first_fault_after same key fault before (item entry rest) =
    option_or (option_or (fault entry) (first_broken ((Duplicate, not (is_among same before (key entry))) ∷ [])))
    (first_fault_after same key fault (before ++ option_to_list (key entry)) rest)

abbrev pub symbols_faults : Items → Option BookError
symbols_faults entries = first_fault_after same_key entry_key symbols_fault [] entries

abbrev pub digits_faults : Items → Option BookError
digits_faults entries = first_fault_after bytes_eq digits_key digits_fault [] entries

abbrev pub rules_faults : Items → Option BookError
rules_faults entries = first_fault_after same_data_locale rules_key rules_fault [] entries

abbrev pub compact_faults : Items → Option BookError
compact_faults entries = first_fault_after same_key entry_key compact_fault [] entries
