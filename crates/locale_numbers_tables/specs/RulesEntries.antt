-- The entries of plural rules: categories with conditions, and the rules that they are.
-- Defined in docs/books.md, "The form"; conditions in docs/plurals.md.
-- Cited by the steps of `Book::from_json`, and by Faults.antt and Book.antt of `locale_numbers_book`.
use Rattle.std.specs.Prelude.{ℕ, List, Option, None, option_map, option_and_then, unwrap_or, [], if◌then◌else◌}
use Rattle.serde_json.specs.Data.{Data}
use Rattle.serde_json.specs.Find.{as_array, as_str}
use Rattle.icu_locale_core.specs.TagPreferences.{DataLocaleMeaning}
use Rattle.icu_decimal.specs.declared.plurals.PluralCategory.{PluralCategory}
use Rattle.icu_decimal.specs.Categories.{category_named}
use Rattle.icu_decimal.specs.Reading.{is_same, rules_of}
use Rattle.icu_decimal.specs.Rules.{Rules}
use Rattle.locale_numbers_tables.specs.Fields.{locale_in}
use Rattle.locale_numbers_tables.specs.Entries.{has_count, field_at}
use Rattle.locale_numbers_tables.specs.Keys.{table_in}

-- place 0: the locale
abbrev pub rules_key : Data → Option DataLocaleMeaning
rules_key entry = field_at locale_in 0 entry

-- a word of a category
abbrev pub category_in : Data → Option PluralCategory
category_in field = option_and_then category_named (as_str field)

-- two fields: a category and its condition
abbrev pub condition_in : Data → Option (PluralCategory × List ℕ)
condition_in pair =
    if has_count 2 pair
    then option_and_then (λ category. option_map {T = List ℕ} {U = PluralCategory × List ℕ} (λ text. (category, text)) (field_at as_str 1 pair)) (field_at category_in 0 pair)
    else None

-- an array of them, with no category twice
abbrev pub conditions_in : Data → Option (List (PluralCategory × List ℕ))
conditions_in field = option_and_then (table_in is_same condition_in) (as_array field)

abbrev pub conditions_of : Data → List (PluralCategory × List ℕ)
conditions_of entry = unwrap_or (field_at conditions_in 1 entry) []

-- the locale and the rules
abbrev pub rules_entry : Data → Option (DataLocaleMeaning × Rules)
rules_entry entry = option_and_then (λ locale. option_map {T = Rules} {U = DataLocaleMeaning × Rules} (λ rules. (locale, rules)) (rules_of (conditions_of entry))) (rules_key entry)
