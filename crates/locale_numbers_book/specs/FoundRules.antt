-- The plural rules and the categories of ranges that a book has, for preferences and for a tag.
-- Defined in docs/books.md, "More"; cardinal rules in docs/compact-text.md, "Compact formatters".
-- Cited by `find_plural_rules` and `Book::plural_rules`, and by the answer to a line.
-- It finds tables of each kind for what a tag prefers, so it imports them all.
use Rattle.std.specs.Prelude.{List, [], ◌∷◌, ◌++◌, Option, None, option_map, unwrap_or, Result}
use Rattle.std.specs.Result.{result_ok}
use Rattle.icu_decimal.specs.Choice.{answered, first_found}
use Rattle.icu_decimal.specs.Identifiers.{identifiers_along}
use Rattle.icu_decimal.specs.Rules.{Rules}
use Rattle.icu_locale_core.specs.DataLocales.{unknown_data}
use Rattle.icu_locale_core.specs.Subtags.{Text}
use Rattle.icu_locale_core.specs.TagPreferences.{DataLocaleMeaning, Preferences, language_priority}
use Rattle.icu_plurals.specs.declared.PluralRange.{PluralRange}
use Rattle.icu_plurals.specs.declared.PluralRuleType.{PluralRuleType}
use Rattle.icu_plurals.specs.declared.PluralRuleType.TheVariants.{Cardinal, Ordinal}
use Rattle.icu_plurals.specs.declared.PluralRulesWithRanges.{PluralRulesWithRanges}
use Rattle.locale_numbers_book.specs.Book.{BookTables}
use Rattle.locale_numbers_book.specs.Tables.{chain_in, ordinals_under, ranges_under, rules_under}
use Rattle.locale_numbers_book.specs.TagFormatters.{found_by}
use Rattle.locale_numbers_book.specs.Wanted.{wanted_of}
use Rattle.locale_numbers_book.specs.declared.formatter_error.FormatterError.{FormatterError}

-- ---- for a locale

-- cardinal rules along the chain, as compact numbers have them
abbrev pub cardinals_for : BookTables → DataLocaleMeaning → Option Rules
cardinals_for book locale = result_ok (first_found (rules_under book) (identifiers_along None (chain_in book locale)))

-- the chain, and after it `und`
abbrev pub chain_with_unknown : BookTables → DataLocaleMeaning → List DataLocaleMeaning
chain_with_unknown book locale = chain_in book locale ++ unknown_data ∷ []

-- ordinal rules along it
abbrev pub ordinals_for : BookTables → DataLocaleMeaning → Option Rules
ordinals_for book locale = result_ok (first_found (ordinals_under book) (identifiers_along None (chain_with_unknown book locale)))

abbrev pub rules_for : PluralRuleType → BookTables → DataLocaleMeaning → Option Rules
rules_for Cardinal book locale = cardinals_for book locale
rules_for Ordinal book locale = ordinals_for book locale

-- ranges along it too, none where no entry is there
abbrev pub lists_for : BookTables → DataLocaleMeaning → Option (List PluralRange)
lists_for book locale = result_ok (first_found (ranges_under book) (identifiers_along None (chain_with_unknown book locale)))

abbrev pub ranges_for : BookTables → DataLocaleMeaning → List PluralRange
ranges_for book locale = unwrap_or (lists_for book locale) []

-- both, where there are rules
abbrev pub rules_and_ranges : PluralRuleType → BookTables → DataLocaleMeaning → Option (Rules × List PluralRange)
rules_and_ranges rule_type book locale =
    option_map {T = Rules} {U = Rules × List PluralRange} (λ rules. (rules, ranges_for book locale)) (rules_for rule_type book locale)

-- ---- for preferences and for a tag

abbrev pub plural_rules_for : PluralRuleType → BookTables → Preferences → Option (Rules × List PluralRange)
plural_rules_for rule_type book preferences = rules_and_ranges rule_type book (language_priority preferences.locale)

abbrev pub plural_rules_of : BookTables → Text → PluralRuleType → Result (Rules × List PluralRange) FormatterError
plural_rules_of book tag rule_type = found_by (λ preferences. answered (plural_rules_for rule_type book preferences)) (wanted_of tag)

-- what is lent
abbrev pub rules_held : PluralRulesWithRanges → Rules × List PluralRange
rules_held found = (found.rules.now, found.ranges.now)
