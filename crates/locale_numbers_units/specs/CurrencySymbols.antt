-- The symbols of currencies: what an entry says, and what is wrong with one.
-- Defined in docs/books.md, "Units" and "Faults".
-- Cited by the reading of symbols of currencies.
use Rattle.std.specs.Prelude.{Bool, ◌&&◌, [], ◌∷◌, Option, is_some, option_map}
use Rattle.serde_json.specs.Data.{Data}
use Rattle.icu_decimal.specs.Identifiers.{Identifier}
use Rattle.icu_dimension.specs.ProvidedUnits.{SymbolText}
use Rattle.locale_numbers_tables.specs.Entries.{field_at, has_count, is_text_at, text_or_empty}
use Rattle.locale_numbers_tables.specs.Faults.{first_broken, has_locale}
use Rattle.locale_numbers_tables.specs.Fields.{plain_text_in}
use Rattle.locale_numbers_tables.specs.declared.BookError.{BookError}
use Rattle.locale_numbers_tables.specs.declared.BookError.TheVariants.{Shape, Tag, Text, Code, Duplicate}
use Rattle.locale_numbers_units.specs.Fields.{code_in, ends_in, key_with}

-- places 0 and 1: the locale and the code
abbrev pub symbols_key : Data → Option Identifier
symbols_key entry = key_with (field_at code_in 1 entry) entry

-- places 2 and 3: the symbol and its ends
abbrev pub symbols_said : Data → Option SymbolText
symbols_said entry = option_map (λ ends. record { text = text_or_empty 2 entry; ends = ends }) (field_at ends_in 3 entry)

-- four fields: three texts, and a number from 0 to 3
abbrev pub has_symbols_shape : Data → Bool
has_symbols_shape entry = has_count 4 entry && is_text_at 0 entry && is_text_at 1 entry && is_text_at 2 entry && is_some (field_at ends_in 3 entry)

-- an entry without a code has no key, so that no earlier one has it too
abbrev pub symbols_fault : Bool → Data → Option BookError
symbols_fault is_new entry = first_broken (
    (Shape, has_symbols_shape entry)
    ∷ (Tag, has_locale entry)
    ∷ (Text, is_some (field_at plain_text_in 2 entry))
    ∷ (Code, is_some (field_at code_in 1 entry))
    ∷ (Duplicate, is_new)
    ∷ [])
