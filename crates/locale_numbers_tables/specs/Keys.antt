-- When two keys of a book are one, what is under a key, and a table that has no key twice.
-- Defined in docs/books.md, "The form".
-- Cited by the steps of `Book::from_json`, by both laws of keys, and by Book.antt and Tables.antt of `locale_numbers_book`.
use Rattle.std.specs.Prelude.{Bool, true, not, ◌&&◌, List, [], ◌∷◌, Option, Some, None, option_and_then, is_some, if◌then◌else◌}
use Rattle.std.specs.Str.{bytes_eq}
use Rattle.serde_json.specs.Data.{Data, Items}
use Rattle.icu_decimal.specs.Identifiers.{Identifier}
pub use Rattle.icu_locale_core.specs.SamePreferences.{same_subdivision, same_data as same_data_locale}
use Rattle.locale_numbers_tables.specs.Entries.{all_of}

-- what is with a key in a list of pairs
abbrev pub table_at : {K V : Type 0} → (K → K → Bool) → K → List (K × V) → Option V
table_at same key [] = None
table_at same key (pair ∷ pairs) = if same key pair.0 then Some pair.1 else table_at same key pairs

-- two keys are one where each of their parts is
abbrev pub same_key : Identifier → Identifier → Bool
same_key a b = same_data_locale a.locale b.locale && bytes_eq a.attributes b.attributes

abbrev pub has_no_key_twice : {K V : Type 0} → (K → K → Bool) → List (K × V) → Bool
has_no_key_twice same [] = true
has_no_key_twice same (pair ∷ pairs) = not (is_some (table_at same pair.0 pairs)) && has_no_key_twice same pairs

abbrev pub without_key_twice : {K V : Type 0} → (K → K → Bool) → List (K × V) → Option (List (K × V))
without_key_twice same pairs = if has_no_key_twice same pairs then Some pairs else None

-- a table of an array: its entries, with no key twice
abbrev pub table_in : {K V : Type 0} → (K → K → Bool) → (Data → Option (K × V)) → Items → Option (List (K × V))
table_in same read items = option_and_then (without_key_twice same) (all_of read items)
