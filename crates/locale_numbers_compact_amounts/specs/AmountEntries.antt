-- The entries of compact amounts: what an entry says, and what is wrong with it.
-- Defined in crates/locale_numbers_compact_amounts/README.md, "Entries" and "Faults".
-- Cited by the reading of an entry.
use Rattle.std.specs.Prelude.{ℕ, Bool, ◌&&◌, [], ◌∷◌, Option, None, Some, is_some, option_and_then, option_map, unwrap_or, if◌then◌else◌}
use Rattle.serde_json.specs.Data.{Data, Items, no_items, item}
use Rattle.serde_json.specs.Find.{as_array}
use Rattle.icu_decimal.specs.Identifiers.{Identifier}
use Rattle.icu_dimension_compact.specs.declared.CompactEntry.{CompactEntry}
use Rattle.icu_dimension_compact.specs.AmountTables.{AmountPatterns, AmountTable, fit_from, rise_from}
use Rattle.locale_numbers_tables.specs.declared.BookError.{BookError}
use Rattle.locale_numbers_tables.specs.declared.BookError.TheVariants.{Shape, Tag, System, Text, Types, Exponents}
use Rattle.locale_numbers_tables.specs.Entries.{entry_key, field_at, has_count, is_text_at}
use Rattle.locale_numbers_tables.specs.Faults.{first_broken, first_fault_after, has_locale}
use Rattle.locale_numbers_tables.specs.Fields.{size_in, system_or_none_in}
use Rattle.locale_numbers_tables.specs.Keys.{same_key}
use Rattle.locale_numbers_compact_amounts.specs.AmountSlots.{patterns_in}
use Rattle.locale_numbers_words.specs.PlainTexts.{is_plain}

-- ---- types

abbrev pub type_with : ℕ → ℕ → AmountPatterns → CompactEntry × AmountPatterns
type_with log10_type exponent patterns = (record { log10_type = log10_type; exponent = exponent }, patterns)

-- three fields: the type, its exponent, and slots
abbrev pub type_in : Data → Option (CompactEntry × AmountPatterns)
type_in row =
    if has_count 3 row
    then option_and_then (λ log10_type. option_and_then (λ exponent. option_map (type_with log10_type exponent) (field_at patterns_in 2 row)) (field_at size_in 1 row)) (field_at size_in 0 row)
    else None

abbrev pub no_types : AmountTable
no_types = record { entries = []; patterns = [] }

abbrev pub with_first : CompactEntry × AmountPatterns → AmountTable → AmountTable
with_first type t = record { entries = type.0 ∷ t.entries; patterns = type.1 ∷ t.patterns }

-- the types of an array, where each item is one
abbrev pub types_said : Items → Option AmountTable
types_said no_items = Some no_types
types_said (item d ds) = option_and_then (λ type. option_map (with_first type) (types_said ds)) (type_in d)

abbrev pub table_in : Data → Option AmountTable
table_in field = option_and_then types_said (as_array field)

-- place 2
abbrev pub types_of : Data → AmountTable
types_of entry = unwrap_or (field_at table_in 2 entry) no_types

-- ---- what is wrong

-- three fields, of which the first two are texts
abbrev pub has_frame : Data → Bool
has_frame entry = has_count 3 entry && is_text_at 0 entry && is_text_at 1 entry

-- the third says types
abbrev pub has_types : Data → Bool
has_types entry = is_some (field_at table_in 2 entry)

-- of the locale and the system, which are the key, and of the texts
abbrev pub key_fault : Data → Option BookError
key_fault entry = first_broken (
    (Tag, has_locale entry)
    ∷ (System, is_some (field_at system_or_none_in 1 entry))
    ∷ (Text, is_plain entry)
    ∷ [])

-- of types as they are said, or not: they are ones, they rise, and their exponents fit
abbrev pub said_fault : Option AmountTable → Option BookError
said_fault said = first_broken (
    (Shape, is_some said)
    ∷ (Types, rise_from 0 (unwrap_or said no_types).entries)
    ∷ (Exponents, fit_from 0 (unwrap_or said no_types).entries)
    ∷ [])

abbrev pub types_fault : Data → Option BookError
types_fault entry = said_fault (field_at table_in 2 entry)

-- of the whole, the first rule that is broken
abbrev pub amounts_fault : Data → Option BookError
amounts_fault entry = first_broken (
    (Shape, has_frame entry && has_types entry)
    ∷ (Tag, has_locale entry)
    ∷ (System, is_some (field_at system_or_none_in 1 entry))
    ∷ (Text, is_plain entry)
    ∷ (Types, rise_from 0 (types_of entry).entries)
    ∷ (Exponents, fit_from 0 (types_of entry).entries)
    ∷ [])

abbrev pub amounts_faults : Items → Option BookError
amounts_faults entries = first_fault_after same_key entry_key amounts_fault [] entries

-- ---- entries

-- a table, where types rise and exponents fit
abbrev pub made : AmountTable → Option AmountTable
made t = if rise_from 0 t.entries && fit_from 0 t.entries then Some t else None

abbrev pub amounts_said : Data → Option AmountTable
amounts_said entry = option_and_then made (field_at table_in 2 entry)

-- the key and the table
abbrev pub amounts_entry : Data → Option (Identifier × AmountTable)
amounts_entry entry = option_and_then (λ key. option_map {T = AmountTable} {U = Identifier × AmountTable} (λ table. (key, table)) (amounts_said entry)) (entry_key entry)
