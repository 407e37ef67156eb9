-- The entries of compact patterns: types with exponents and patterns, and the table that they are.
-- Defined in docs/books.md, "The form"; patterns and tables in docs/compact-text.md. The law of `laws.rt` of `locale_numbers_book` says that `table_made` finds
-- exactly the tables of the relation `IsTable`, which is to be believed in its place.
-- Cited by the steps of `Book::from_json`, and by Faults.antt and Book.antt of `locale_numbers_book`.
use Rattle.std.specs.Prelude.{ℕ, suc, nat_le, Bool, true, ◌&&◌, not, List, [], ◌∷◌, map, Option, None, Some, is_some, option_map, option_and_then, unwrap_or, if◌then◌else◌}
use Rattle.std.specs.Option.{option_map_or}
use Rattle.serde_json.specs.Data.{Data, Items, no_items, item}
use Rattle.serde_json.specs.Find.{at, as_array, as_null}
use Rattle.icu_decimal.specs.Identifiers.{Identifier}
use Rattle.icu_decimal.specs.KeptEntries.{CompactTable, Patterns, TypePatterns, first_fault, of_type, table_of}
use Rattle.icu_decimal.specs.SlotsJson.{slots_of}
use Rattle.icu_decimal.specs.KeptSteps.{kept_of}
use Rattle.locale_numbers_tables.specs.Fields.{plain_text_in, size_in}
use Rattle.locale_numbers_tables.specs.Entries.{all_of, has_count, field_at, entry_key}

-- ---- types

-- a type, its exponent and its patterns
abbrev pub Row : Type 0
Row = ℕ × (ℕ × Patterns)

abbrev pub row_with : ℕ → ℕ → Patterns → Row
row_with log10_type exponent patterns = (log10_type, (exponent, patterns))

-- three fields: the type, the exponent, and slots
abbrev pub row_in : Data → Option Row
row_in row =
    if has_count 3 row
    then option_and_then (λ log10_type. option_and_then (λ exponent. option_map (row_with log10_type exponent) (field_at slots_of 2 row)) (field_at size_in 1 row)) (field_at size_in 0 row)
    else None

abbrev pub rows_in : Data → Option (List Row)
rows_in field = option_and_then (all_of row_in) (as_array field)

-- the patterns of numbers below all types, or `null` for none
abbrev pub zero_in : Data → Option (Option Patterns)
zero_in field = if is_some (as_null field) then Some None else option_map (λ patterns. Some patterns) (slots_of field)

-- place 2, and place 3
abbrev pub rows_of : Data → List Row
rows_of entry = unwrap_or (field_at rows_in 2 entry) []

abbrev pub zero_of : Data → Option Patterns
zero_of entry = unwrap_or (field_at zero_in 3 entry) None

-- ---- texts

-- all items of an array are so; a value that is no array has none
abbrev pub each : (Data → Bool) → Items → Bool
each holds no_items = true
each holds (item d ds) = holds d && each holds ds

abbrev pub each_in : (Data → Bool) → Data → Bool
each_in holds value = option_map_or (each holds) (as_array value) true

abbrev pub is_so_at : (Data → Bool) → ℕ → Data → Bool
is_so_at holds place value = option_map_or holds (at place value) true

-- no tab and no line feed is in the texts of a pattern, of slots, of a type
abbrev pub is_plain_text : Data → Bool
is_plain_text text = is_some (plain_text_in text)

abbrev pub is_plain_slot : Data → Bool
is_plain_slot slot = is_so_at (each_in is_plain_text) 1 slot

abbrev pub are_plain_slots : Data → Bool
are_plain_slots slots = each_in is_plain_slot slots

abbrev pub is_plain_row : Data → Bool
is_plain_row row = is_so_at are_plain_slots 2 row

abbrev pub has_plain_patterns : Data → Bool
has_plain_patterns entry = is_so_at (each_in is_plain_row) 2 entry && is_so_at are_plain_slots 3 entry

-- ---- tables

-- the types rise strictly, and none is below `least`
abbrev pub rise_from : ℕ → List Row → Bool
rise_from least [] = true
rise_from least (row ∷ rows) = nat_le least row.0 && rise_from (suc row.0) rows

-- no exponent is below the one before it, and none below `least`
abbrev pub never_fall_from : ℕ → List TypePatterns → Bool
never_fall_from least [] = true
never_fall_from least (x ∷ xs) = nat_le least x.exponent && never_fall_from x.exponent xs

-- the table of the types given, where `zero` are the patterns of numbers below all of them
abbrev pub table_made : Option Patterns → List TypePatterns → Option CompactTable
table_made zero given =
    if never_fall_from 0 given && not (is_some (first_fault (kept_of zero given))) then Some (table_of (kept_of zero given)) else None

abbrev pub compact_of : Data → Option CompactTable
compact_of entry = table_made (zero_of entry) (map of_type (rows_of entry))

-- the key and the table
abbrev pub compact_entry : Data → Option (Identifier × CompactTable)
compact_entry entry = option_and_then (λ key. option_map {T = CompactTable} {U = Identifier × CompactTable} (λ table. (key, table)) (compact_of entry)) (entry_key entry)
