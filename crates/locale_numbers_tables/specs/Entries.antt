-- The entries of a book: their fields, and what those of symbols and of digits say.
-- Defined in docs/books.md, "The form"; names of systems after UTS 35, part 3 (numbers).
-- Cited by the steps of `Book::from_json`, and by Book.antt of `locale_numbers_book`.
use Rattle.std.specs.Prelude.{ℕ, ◌+◌, ◌==◌, Bool, false, ◌&&◌, List, [], ◌∷◌, Option, Some, None, option_map, option_and_then, is_some, unwrap_or, if◌then◌else◌}
use Rattle.std.specs.Option.{option_map_or}
use Rattle.serde_json.specs.Data.{Data, Items, no_items, item}
use Rattle.serde_json.specs.Find.{at, as_array, as_str}
use Rattle.icu_locale_core.specs.Subtags.{Text}
use Rattle.icu_decimal.specs.declared.provider.GroupingSizes.{GroupingSizes}
use Rattle.icu_decimal.specs.Identifiers.{Identifier, of_both}
use Rattle.icu_decimal.specs.Symbols.{SymbolStrings, Symbols}
use Rattle.locale_numbers_tables.specs.Fields.{plain_text_in, system_in, system_or_none_in, locale_in, size_in, digits_in}

-- ---- fields

-- how many items an array has; a value that is no array has none
abbrev pub count_of_items : Items → ℕ
count_of_items no_items = 0
count_of_items (item d ds) = 1 + count_of_items ds

abbrev pub has_count : ℕ → Data → Bool
has_count n value = option_map_or (λ ds. count_of_items ds == n) (as_array value) false

-- the field at a place of an entry, read; places are counted from 0
abbrev pub field_at : {T : Type 0} → (Data → Option T) → ℕ → Data → Option T
field_at read place entry = option_and_then read (at place entry)

abbrev pub is_text_at : ℕ → Data → Bool
is_text_at place entry = is_some (field_at as_str place entry)

-- the items of an array, read one by one; none where one of them is not read
abbrev pub all_of : {E : Type 0} → (Data → Option E) → Items → Option (List E)
all_of read no_items = Some []
all_of {E} read (item d ds) = option_and_then (λ e. option_map {T = List E} {U = List E} (λ es. e ∷ es) (all_of read ds)) (read d)

-- places 0 and 1 of symbols and of patterns: the locale, and the system asked for or the empty text
abbrev pub entry_key : Data → Option Identifier
entry_key entry = option_and_then
    (λ locale. option_map (λ system. of_both system locale) (field_at system_or_none_in 1 entry))
    (field_at locale_in 0 entry)

-- ---- symbols

-- places 9 to 11: the sizes of groups
abbrev pub grouping_sizes_of : Data → Option GroupingSizes
grouping_sizes_of entry =
    if is_some (field_at size_in 9 entry) && is_some (field_at size_in 10 entry) && is_some (field_at size_in 11 entry)
    then Some (record {
      primary = unwrap_or (field_at size_in 9 entry) 0;
      secondary = unwrap_or (field_at size_in 10 entry) 0;
      min_grouping = unwrap_or (field_at size_in 11 entry) 0;
    })
    else None

-- places 3 to 8: the texts
abbrev pub has_texts : Data → Bool
has_texts entry =
    is_some (field_at plain_text_in 3 entry) && is_some (field_at plain_text_in 4 entry) && is_some (field_at plain_text_in 5 entry)
    && is_some (field_at plain_text_in 6 entry) && is_some (field_at plain_text_in 7 entry) && is_some (field_at plain_text_in 8 entry)

abbrev pub text_or_empty : ℕ → Data → List ℕ
text_or_empty place entry = unwrap_or (field_at plain_text_in place entry) []

abbrev pub symbol_texts : Text → Data → SymbolStrings
symbol_texts numsys entry = record {
  minus_sign_prefix = text_or_empty 3 entry;
  minus_sign_suffix = text_or_empty 4 entry;
  plus_sign_prefix = text_or_empty 5 entry;
  plus_sign_suffix = text_or_empty 6 entry;
  decimal_separator = text_or_empty 7 entry;
  grouping_separator = text_or_empty 8 entry;
  numsys = numsys;
}

-- places 2 to 11: the symbols
abbrev pub symbols_with : Text → GroupingSizes → Data → Option Symbols
symbols_with numsys sizes entry =
    if has_texts entry then Some (record { strings = symbol_texts numsys entry; grouping_sizes = sizes }) else None

abbrev pub symbols_of : Data → Option Symbols
symbols_of entry = option_and_then
    (λ numsys. option_and_then (λ sizes. symbols_with numsys sizes entry) (grouping_sizes_of entry))
    (field_at system_in 2 entry)

-- twelve fields: the key and the symbols
abbrev pub symbols_entry : Data → Option (Identifier × Symbols)
symbols_entry entry =
    if has_count 12 entry
    then option_and_then (λ key. option_map {T = Symbols} {U = Identifier × Symbols} (λ symbols. (key, symbols)) (symbols_of entry)) (entry_key entry)
    else None

-- ---- digits

-- place 0: the system
abbrev pub digits_key : Data → Option Text
digits_key entry = field_at system_in 0 entry

-- two fields: the system and its digits
abbrev pub digits_entry : Data → Option (Text × List ℕ)
digits_entry entry =
    if has_count 2 entry
    then option_and_then (λ system. option_map {T = List ℕ} {U = Text × List ℕ} (λ digits. (system, digits)) (field_at digits_in 1 entry)) (digits_key entry)
    else None
