-- Amounts of money, in general and in accounting: what an entry says, and what is wrong with one.
-- Defined in docs/books.md, "Units" and "Faults".
-- Cited by the reading of currencies and of accounts.
use Rattle.std.specs.Prelude.{Bool, ◌&&◌, [], ◌∷◌, Option, is_some, option_and_then, option_map}
use Rattle.serde_json.specs.Data.{Data}
use Rattle.icu_decimal.specs.Identifiers.{Identifier}
use Rattle.icu_locale_core.specs.Subtags.{Text as Subtag}
use Rattle.icu_dimension.specs.ProvidedUnits.{AmountTexts}
use Rattle.icu_dimension.specs.UnitPatterns.{PatternChoice}
use Rattle.locale_numbers_tables.specs.Entries.{field_at, has_count, is_text_at}
use Rattle.locale_numbers_tables.specs.Faults.{first_broken, has_locale}
use Rattle.locale_numbers_tables.specs.Fields.{system_or_none_in}
use Rattle.locale_numbers_tables.specs.declared.BookError.{BookError}
use Rattle.locale_numbers_tables.specs.declared.BookError.TheVariants.{Shape, Tag, System, Text, Duplicate, Unit}
use Rattle.locale_numbers_units.specs.Fields.{has_at, key_with, system_or_code_at}
use Rattle.locale_numbers_units.specs.OwnSymbols.{has_own_shape, has_own_system, has_own_texts, own_in}
use Rattle.locale_numbers_units.specs.Patterns.{has_pattern_shape, is_plain_pattern, or_null, pattern_in, pattern_or_null_in}

-- places 3 and 4: the pattern, and the one beside a letter or null
abbrev pub patterns_of : Data → Option PatternChoice
patterns_of entry = option_and_then
    (λ standard. option_map (λ beside. record { standard = standard; alpha_next_to_number = beside }) (field_at pattern_or_null_in 4 entry))
    (field_at pattern_in 3 entry)

-- places 2 to 4
abbrev pub amounts_said : Data → Option AmountTexts
amounts_said entry = option_and_then
    (λ own. option_map (λ patterns. record { symbols = own; patterns = patterns }) (patterns_of entry))
    (field_at own_in 2 entry)

-- five fields: two texts, symbols or null, a pattern, and a pattern or null
abbrev pub has_amounts_shape : Data → Bool
has_amounts_shape entry =
    has_count 5 entry && is_text_at 0 entry && is_text_at 1 entry
    && has_at has_own_shape 2 entry && has_at has_pattern_shape 3 entry && has_at (or_null has_pattern_shape) 4 entry

-- the second field as it is read, or none where it is refused
abbrev pub has_amounts_systems : Option Subtag → Data → Bool
has_amounts_systems attribute entry = is_some attribute && has_at has_own_system 2 entry

abbrev pub has_amounts_texts : Data → Bool
has_amounts_texts entry = has_at has_own_texts 2 entry && has_at is_plain_pattern 3 entry && has_at (or_null is_plain_pattern) 4 entry

abbrev pub has_amounts_places : Data → Bool
has_amounts_places entry = is_some (patterns_of entry)

abbrev pub amounts_fault : Option Subtag → Bool → Data → Option BookError
amounts_fault attribute is_new entry = first_broken (
    (Shape, has_amounts_shape entry)
    ∷ (Tag, has_locale entry)
    ∷ (System, has_amounts_systems attribute entry)
    ∷ (Text, has_amounts_texts entry)
    ∷ (Duplicate, is_new)
    ∷ (Unit, has_amounts_places entry)
    ∷ [])

-- ---- currencies: the second field is a system, a code, or empty

abbrev pub currencies_key : Data → Option Identifier
currencies_key entry = key_with (system_or_code_at 1 entry) entry

abbrev pub currencies_fault : Bool → Data → Option BookError
currencies_fault is_new entry = amounts_fault (system_or_code_at 1 entry) is_new entry

-- ---- accounts: a system, or empty

abbrev pub accounts_key : Data → Option Identifier
accounts_key entry = key_with (field_at system_or_none_in 1 entry) entry

abbrev pub accounts_fault : Bool → Data → Option BookError
accounts_fault is_new entry = amounts_fault (field_at system_or_none_in 1 entry) is_new entry
