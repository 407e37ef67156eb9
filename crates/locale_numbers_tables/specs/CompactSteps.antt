-- What is wrong with an entry of patterns, in parts: of its key and its texts, and of its types and patterns.
-- Defined in docs/books.md, "Faults"; the whole is `compact_fault` of Faults.antt.
-- Cited by the steps of `Book::from_json`.
use Rattle.std.specs.Prelude.{Bool, ◌&&◌, List, [], ◌∷◌, Option, is_some, map}
use Rattle.serde_json.specs.Data.{Data}
use Rattle.icu_decimal.specs.KeptEntries.{Patterns, of_type}
use Rattle.locale_numbers_faults.specs.declared.BookError.{BookError}
use Rattle.locale_numbers_faults.specs.declared.BookError.TheVariants.{Shape, Tag, System, Text, Types, Exponents}
use Rattle.locale_numbers_tables.specs.Fields.{system_or_none_in}
use Rattle.locale_numbers_tables.specs.Entries.{field_at}
use Rattle.locale_numbers_tables.specs.CompactEntries.{Row, rows_in, zero_in, has_plain_patterns, rise_from, rows_of, table_made, zero_of}
use Rattle.locale_numbers_tables.specs.Faults.{first_broken, has_locale}

-- of the locale and the system, which are the key, and of the texts of all patterns: none has a tab or a line feed
abbrev pub key_or_text_fault : Data → Option BookError
key_or_text_fault entry = first_broken (
    (Tag, has_locale entry)
    ∷ (System, is_some (field_at system_or_none_in 1 entry))
    ∷ (Text, has_plain_patterns entry)
    ∷ [])

-- the third field is an array of types, and the fourth has the patterns of the numbers below them, or null
abbrev pub has_table_shape : Data → Bool
has_table_shape entry = is_some (field_at rows_in 2 entry) && is_some (field_at zero_in 3 entry)

-- of the types that were read, with the patterns of the numbers below them: the types rise, and their exponents make a table
abbrev pub types_fault : Option Patterns → List Row → Option BookError
types_fault zero rows = first_broken ((Types, rise_from 0 rows) ∷ (Exponents, is_some (table_made zero (map of_type rows))) ∷ [])

-- of the third and the fourth field of an entry: they have their shape, and the types that they say have no fault
abbrev pub table_fault : Data → Option BookError
table_fault entry = first_broken ((Shape, has_table_shape entry) ∷ (Types, rise_from 0 (rows_of entry)) ∷ (Exponents, is_some (table_made (zero_of entry) (map of_type (rows_of entry)))) ∷ [])
