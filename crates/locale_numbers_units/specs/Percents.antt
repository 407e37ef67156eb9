-- Percents: what an entry says, and what is wrong with one.
-- Defined in docs/books.md, "Units" and "Faults".
-- Cited by the reading of percents.
use Rattle.std.specs.Prelude.{ℕ, Bool, ◌&&◌, ◌||◌, List, [], ◌∷◌, Option, None, Some, if◌then◌else◌, is_some, option_and_then, option_map}
use Rattle.serde_json.specs.Data.{Data}
use Rattle.icu_dimension.specs.ProvidedUnits.{PercentTexts}
use Rattle.locale_numbers_tables.specs.Entries.{field_at, has_count, is_text_at, text_or_empty}
use Rattle.locale_numbers_tables.specs.Faults.{first_broken, has_locale}
use Rattle.locale_numbers_tables.specs.Fields.{plain_text_in, system_or_none_in}
use Rattle.locale_numbers_tables.specs.declared.BookError.{BookError}
use Rattle.locale_numbers_tables.specs.declared.BookError.TheVariants.{Shape, Tag, System, Text, Duplicate, Unit}
use Rattle.locale_numbers_units.specs.Fields.{has_at}
use Rattle.locale_numbers_units.specs.OwnSymbols.{has_own_shape, has_own_system, has_own_texts, own_in}
use Rattle.locale_numbers_units.specs.Patterns.{has_pattern_shape, is_plain_pattern, pattern_in}

-- the permille sign, where there is a sixth field
abbrev pub permille_said : Data → Option (List ℕ)
permille_said entry = if is_text_at 5 entry then Some (text_or_empty 5 entry) else None

-- places 2 to 5
abbrev pub percents_said : Data → Option PercentTexts
percents_said entry = option_and_then
    (λ own. option_map
    (λ pattern. record { sign = text_or_empty 2 entry; permille = permille_said entry; symbols = own; pattern = pattern })
    (field_at pattern_in 4 entry))
    (field_at own_in 3 entry)

-- five fields or six: three texts, symbols or null, a pattern, and a text
abbrev pub has_percents_shape : Data → Bool
has_percents_shape entry =
    (has_count 5 entry || has_count 6 entry && is_text_at 5 entry) && is_text_at 0 entry && is_text_at 1 entry && is_text_at 2 entry
    && has_at has_own_shape 3 entry && has_at has_pattern_shape 4 entry

abbrev pub has_percents_systems : Data → Bool
has_percents_systems entry = is_some (field_at system_or_none_in 1 entry) && has_at has_own_system 3 entry

abbrev pub has_percents_texts : Data → Bool
has_percents_texts entry =
    is_some (field_at plain_text_in 2 entry) && (has_count 5 entry || is_some (field_at plain_text_in 5 entry))
    && has_at has_own_texts 3 entry && has_at is_plain_pattern 4 entry

abbrev pub percents_fault : Bool → Data → Option BookError
percents_fault is_new entry = first_broken (
    (Shape, has_percents_shape entry)
    ∷ (Tag, has_locale entry)
    ∷ (System, has_percents_systems entry)
    ∷ (Text, has_percents_texts entry)
    ∷ (Duplicate, is_new)
    ∷ (Unit, is_some (field_at pattern_in 4 entry))
    ∷ [])
