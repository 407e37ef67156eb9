-- The symbols that an entry of units has of its own: the ten last fields of an entry of symbols, or null for none.
-- Defined in docs/books.md, "Units".
-- Cited by the reading of percents, currencies and accounts.
use Rattle.std.specs.Prelude.{Bool, ◌||◌, [], Option, None, Some, is_some, option_map, unwrap_or, if◌then◌else◌}
use Rattle.serde_json.specs.Data.{Data, array, string, item, no_items}
use Rattle.serde_json.specs.Find.{as_array, as_null}
use Rattle.icu_decimal.specs.Symbols.{Symbols}
use Rattle.icu_locale_core.specs.Subtags.{Text}
use Rattle.locale_numbers_tables.specs.Entries.{field_at, grouping_sizes_of, has_texts, symbol_texts}
use Rattle.locale_numbers_tables.specs.Faults.{has_symbols_shape}
use Rattle.locale_numbers_tables.specs.Fields.{system_in}

-- the entry of symbols whose last fields these are
abbrev pub as_entry : Data → Data
as_entry own = array (item (string []) (item (string []) (unwrap_or (as_array own) no_items)))

abbrev pub is_null : Data → Bool
is_null own = is_some (as_null own)

-- ten fields, as those of an entry of symbols, or null
abbrev pub has_own_shape : Data → Bool
has_own_shape own = is_null own || has_symbols_shape (as_entry own)

abbrev pub has_own_system : Data → Bool
has_own_system own = is_null own || is_some (field_at system_in 2 (as_entry own))

abbrev pub has_own_texts : Data → Bool
has_own_texts own = is_null own || has_texts (as_entry own)

-- the symbols of fields without a fault
abbrev pub system_or_empty : Data → Text
system_or_empty entry = unwrap_or (field_at system_in 2 entry) []

abbrev pub symbols_in : Data → Option Symbols
symbols_in entry = option_map
    (λ sizes. record { strings = symbol_texts (system_or_empty entry) entry; grouping_sizes = sizes })
    (grouping_sizes_of entry)

-- the symbols, or none for null
abbrev pub own_in : Data → Option (Option Symbols)
own_in own = if is_null own then Some None else option_map (λ symbols. Some symbols) (symbols_in (as_entry own))
