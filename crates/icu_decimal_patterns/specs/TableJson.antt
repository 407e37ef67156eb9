-- Which JSON value says a table, and the JSON value of a table: an array of a type, its exponent and its slots each.
-- Defined in docs/compact-text.md, "The JSON form".
-- Cited by `to_json` and `from_json` of `CompactPatterns`.
use Rattle.std.specs.Prelude.{ℕ, suc, nat_lt, nat_le, Bool, true, ◌&&◌, List, [], ◌∷◌, codes, IsSomeAnd, Option, Some, None, option_map, option_and_then, if◌then◌else◌}
use Rattle.serde_json.specs.Data.{Data, number, unsigned, string, array}
use Rattle.serde_json.specs.Find.{at, as_array, as_number, as_u64}
use Rattle.serde_json.specs.View.{items_of}
use Rattle.icu_decimal_symbols.specs.declared.error.DataError.{DataError}
use Rattle.icu_decimal_compact_value.specs.declared.entry.CompactEntry.{CompactEntry}
use Rattle.icu_decimal_patterns.specs.KeptEntries.{CompactTable, IsTable, IsTableFault, Patterns, TypePatterns}
use Rattle.icu_decimal_patterns.specs.Pattern.{PatternText, literal, around}
use Rattle.icu_decimal_patterns.specs.SlotsJson.{has_count, listed, slots_of}

-- ---- the types that a value says

-- a number from 0 to 255
abbrev pub size_in : Data → Option ℕ
size_in field = option_and_then (λ n. if nat_lt n 256 then Some n else None) (option_and_then as_u64 (as_number field))

-- the field at a place of a row, read; places are counted from 0
abbrev pub field_at : {T : Type 0} → (Data → Option T) → ℕ → Data → Option T
field_at read place row = option_and_then read (at place row)

abbrev pub type_with : ℕ → ℕ → Patterns → TypePatterns
type_with log10_type exponent patterns = record { log10_type = log10_type; exponent = exponent; patterns = patterns }

-- three fields: the type, the exponent, and slots
abbrev pub type_in : Data → Option TypePatterns
type_in row =
    if has_count 3 row
    then option_and_then (λ log10_type. option_and_then (λ exponent. option_map (type_with log10_type exponent) (field_at slots_of 2 row)) (field_at size_in 1 row)) (field_at size_in 0 row)
    else None

-- the types that items are; none where one of them is no type
abbrev pub all_types : List Data → Option (List TypePatterns)
all_types [] = Some []
all_types (d ∷ ds) = option_and_then (λ x. option_map (λ (xs : List TypePatterns). x ∷ xs) (all_types ds)) (type_in d)

-- the types rise strictly, and none is below `least`
abbrev pub rise_from : ℕ → List TypePatterns → Bool
rise_from least [] = true
rise_from least (x ∷ xs) = nat_le least x.log10_type && rise_from (suc x.log10_type) xs

abbrev pub rising : List TypePatterns → Option (List TypePatterns)
rising types = if rise_from 0 types then Some types else None

-- the types of an array, where each item is one and they rise strictly
abbrev pub types_of : Data → Option (List TypePatterns)
types_of value = option_and_then (λ ds. option_and_then rising (all_types (listed ds))) (as_array value)

-- the value says this table
abbrev pub SaysTable : Data → CompactTable → Type 0
SaysTable value table = IsSomeAnd (types_of value) (λ given. IsTable None given table)

-- an error that tells why a value says no table
abbrev pub IsTableJsonFault : DataError → Type 0
IsTableJsonFault DataError.Custom = Unit {0}
IsTableJsonFault fault = IsTableFault fault

-- ---- the value of a table

abbrev pub json_array : List Data → Data
json_array ds = array (items_of ds)

abbrev pub pattern_json : PatternText → Data
pattern_json (literal text) = json_array (string text ∷ [])
pattern_json (around before after) = json_array (string before ∷ string after ∷ [])

abbrev pub slot_json : List ℕ → PatternText → Data
slot_json name pattern = json_array (string name ∷ pattern_json pattern ∷ [])

-- a slot's name, and its pattern where there is one
abbrev pub Slot : Type 0
Slot = List ℕ × Option PatternText

-- the values of the slots that have a pattern, in their order
abbrev pub filled_slots : List Slot → List Data
filled_slots [] = []
filled_slots ((name, None) ∷ slots) = filled_slots slots
filled_slots ((name, Some pattern) ∷ slots) = slot_json name pattern ∷ filled_slots slots

-- the slots of a type by their names
abbrev pub named_slots : Patterns → List Slot
named_slots p =
    (codes "0", p.explicit_zero) ∷ (codes "1", p.explicit_one) ∷ (codes "zero", p.zero) ∷ (codes "one", p.one) ∷ (codes "two", p.two)
    ∷ (codes "few", p.few) ∷ (codes "many", p.many) ∷ (codes "other", Some p.other) ∷ []

abbrev pub slots_json : Patterns → Data
slots_json p = json_array (filled_slots (named_slots p))

-- a type, its exponent and its slots
abbrev pub type_json : CompactEntry → Patterns → Data
type_json entry patterns = json_array (number (unsigned entry.log10_type) ∷ number (unsigned entry.exponent) ∷ slots_json patterns ∷ [])

-- each entry with its patterns
abbrev pub types_json : List CompactEntry → List Patterns → List Data
types_json [] patterns = []
types_json (entry ∷ entries) [] = []
types_json (entry ∷ entries) (first ∷ patterns) = type_json entry first ∷ types_json entries patterns

abbrev pub table_json : CompactTable → Data
table_json table = json_array (types_json table.entries table.patterns)
