-- When a book has of another all that preferences ask for: under each identifier that is asked for, both have the same.
-- Defined in docs/books.md, "The small book of a tag".
-- Cited by `laws::served_books_answer_alike`, and by `laws::selected_books_answer_alike` through Selection.antt.
-- It names what a book has of each kind, and the identifiers that are asked for, and imports the definition of each.
use Rattle.std.specs.Prelude.{◌≡◌, ℕ, List, [], ◌∷◌, None, Some, Result, Ok}
use Rattle.icu_decimal.specs.Choice.{first_found}
use Rattle.icu_decimal.specs.FoundCompactTables.{patterns_identifiers, rules_identifiers}
use Rattle.icu_decimal.specs.Identifiers.{Identifier, digits_identifiers, identifiers_along, of_system, symbols_identifiers, under_each}
use Rattle.icu_decimal.specs.Symbols.{Symbols}
use Rattle.icu_decimal.specs.declared.error.DataError.{DataError}
use Rattle.icu_dimension.specs.UnitChoice.{unit_chain, unknown_last}
use Rattle.icu_locale_core.specs.Subtags.{Text}
use Rattle.icu_locale_core.specs.TagPreferences.{DataLocaleMeaning, Preferences, language_priority}
use Rattle.locale_numbers.specs.Answer.{answer_of}
use Rattle.locale_numbers_book.specs.Book.{BookTables}
use Rattle.locale_numbers_book.specs.FoundFormats.{in_latin}
use Rattle.locale_numbers_book.specs.FoundRules.{chain_with_unknown}
use Rattle.locale_numbers_book.specs.Tables.{accounts_under, chain_in, currencies_under, currency_symbols_under, digits_under, fractions_under, long_under, ordinals_under, parent_under, percents_under, ranges_under, rules_under, short_under, signs_under, steps_in, symbols_under}
use Rattle.locale_numbers_book.specs.Wanted.{wanted_of}
use Rattle.locale_numbers_requests.specs.Request.{Asked, request_of}

-- the same at each of these
abbrev pub Agree : {T : Type 0} → (Identifier → Result T DataError) → (Identifier → Result T DataError) → List Identifier → Type 0
Agree small whole [] = Unit {0}
Agree small whole (id ∷ ids) = (small id ≡ whole id) × Agree small whole ids

-- the locales that units and signs are asked for along
abbrev pub unit_locales_in : BookTables → Preferences → List DataLocaleMeaning
unit_locales_in book p = unit_chain (parent_under book) (steps_in book.parents) (language_priority p.locale)

-- under each identifier that preferences ask for a smaller book has what the larger one has
pub record Serves (small whole : BookTables) (p : Preferences) : Type 0 where
  pub chains : chain_in small (language_priority p.locale) ≡ chain_in whole (language_priority p.locale)
  pub rooted : unknown_last (steps_in small.parents) ≡ unknown_last (steps_in whole.parents)
  pub symbols : Agree (symbols_under small) (symbols_under whole) (symbols_identifiers (chain_in whole) p)
  pub digits : (symbols : Symbols) → first_found (symbols_under whole) (symbols_identifiers (chain_in whole) p) ≡ Ok symbols
      → Agree (digits_under small) (digits_under whole) (digits_identifiers p.numbering_system symbols.strings.numsys)
  pub rules : Agree (rules_under small) (rules_under whole) (rules_identifiers (chain_in whole) p)
  pub short : Agree (short_under small) (short_under whole) (patterns_identifiers (chain_in whole) p)
  pub long : Agree (long_under small) (long_under whole) (patterns_identifiers (chain_in whole) p)
  pub percents : Agree (percents_under small) (percents_under whole) (identifiers_along p.numbering_system (unit_locales_in whole p))
  pub currencies : Agree (currencies_under small) (currencies_under whole) (identifiers_along p.numbering_system (unit_locales_in whole p))
  pub coded : (code : Text) → Agree (currencies_under small) (currencies_under whole) (under_each code (unit_locales_in whole p))
  pub accounts : Agree (accounts_under small) (accounts_under whole) (identifiers_along p.numbering_system (unit_locales_in whole p))
  pub names : (code : Text) → Agree (currency_symbols_under small) (currency_symbols_under whole) (under_each code (unit_locales_in whole p))
  pub ordinals : Agree (ordinals_under small) (ordinals_under whole) (identifiers_along None (chain_with_unknown whole (language_priority p.locale)))
  pub ranges : Agree (ranges_under small) (ranges_under whole) (identifiers_along None (chain_with_unknown whole (language_priority p.locale)))
  pub fractions : (code : Text) → fractions_under small (of_system code) ≡ fractions_under whole (of_system code)
  pub signs : Agree (signs_under small) (signs_under whole) (identifiers_along p.numbering_system (unit_locales_in whole p))

-- for a tag and, as lenient lines ask for it too, with the numbering system `latn`
abbrev pub ServedBooksAnswerAlike : Type 0
ServedBooksAnswerAlike = (small whole : BookTables) (line : List ℕ) (asked : Asked) (p : Preferences)
    → request_of line ≡ Some asked → wanted_of asked.tag ≡ Some p → Serves small whole p → Serves small whole (in_latin p)
    → answer_of small line ≡ answer_of whole line
