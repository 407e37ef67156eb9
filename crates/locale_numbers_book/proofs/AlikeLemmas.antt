-- What preferences find: two that ask for the same find the same, in every shape.
use Rattle.std.proofs.Common.{◌≡◌, List, Some, None, Option, Result, Ok, Err, refl, sym, ap, ap₂, ◌∙◌}
use Rattle.icu_decimal.specs.Choice.{first_found}
use Rattle.icu_decimal.specs.FoundCompactTables.{patterns_identifiers, rules_identifiers, with_plain}
use Rattle.icu_decimal.specs.FoundTables.{with_digits, with_symbols}
use Rattle.icu_decimal.specs.Identifiers.{digits_identifiers, identifiers_along, symbols_identifiers}
use Rattle.icu_decimal.specs.PlainText.{Tables}
use Rattle.icu_decimal.specs.Symbols.{Symbols}
use Rattle.icu_decimal.specs.declared.error.DataError.{DataError}
use Rattle.icu_decimal.specs.declared.options.GroupingStrategy.{GroupingStrategy}
use Rattle.icu_dimension.specs.FoundUnits.{CurrencySettings, amount_settings, decimals_found, percent_settings, sign_found, then_found}
use Rattle.icu_dimension.specs.UnitChoice.{amounts_found, fractions_found, name_found, percent_found, unit_chain}
use Rattle.icu_dimension.specs.UnitSources.{CurrencySource, PercentSource}
use Rattle.icu_dimension.specs.UnitText.{UnitSettings}
use Rattle.icu_dimension.specs.declared.CurrencyFormatterOptions.{CurrencyFormatterOptions}
use Rattle.icu_dimension.specs.declared.PercentSign.{PercentSign}
use Rattle.icu_locale_core.specs.Subtags.{Text}
use Rattle.icu_locale_core.specs.TagPreferences.{DataLocaleMeaning, Preferences, language_priority}
use Rattle.locale_numbers_book.specs.Book.{BookTables}
use Rattle.locale_numbers_book.specs.FoundFormats.{amount_options, compact_found, found_for, mapped, notation_found, percent_options, scientific_found, scientific_of, standard_found, with_signs}
use Rattle.locale_numbers_book.specs.TagFormatters.{currencies_in, currency_found_in, found_beside, found_plain, patterns_under, percent_found_in, percents_in, signs_found_in}
use Rattle.locale_numbers_book.specs.Tables.{chain_in, digits_under, parent_under, rules_under, signs_under, steps_in, symbols_under}
use Rattle.locale_numbers_formats.specs.declared.CompactWidth.{CompactWidth}
use Rattle.locale_numbers_formats.specs.declared.Notation.{Notation}
use Rattle.locale_numbers_formats.specs.declared.Notation.TheVariants.{Standard, Compact, CompactDigits, Scientific}
use Rattle.locale_numbers_formats.specs.declared.NumberShape.{NumberShape}
use Rattle.locale_numbers_formats.specs.declared.NumberUnit.{NumberUnit}
use Rattle.locale_numbers_formats.specs.declared.NumberUnit.TheVariants as unit
use Rattle.locale_numbers_formatter.specs.FormatText.{compact_tables, digits_tables, plain_tables, unit_tables}
use Rattle.locale_numbers_formatter.specs.HeldFormats.{currency_format, percent_format}
use Rattle.locale_numbers_signs.specs.SignChoice.{signs_found}

-- ---- what is found, by the tables of plain text, the locales and the system

abbrev percents_by : PercentSource → PercentSign → Result Tables DataError → List DataLocaleMeaning → Option Text → Result UnitSettings DataError
percents_by s sign tables locales system =
    then_found tables (λ t.
    then_found (percent_found s.percents locales system) (λ e.
    then_found (sign_found sign e) (λ text.
    Ok (percent_settings t e text))))

abbrev amounts_by : CurrencySource → Text → CurrencyFormatterOptions → Result Tables DataError → List DataLocaleMeaning → Option Text → Result CurrencySettings DataError
amounts_by s code options tables locales system =
    then_found tables (λ t.
    then_found (amounts_found options.style s.currencies s.accounts locales system code) (λ e.
    then_found (name_found options.width s.symbols locales code) (λ name.
    then_found (fractions_found s.fractions code) (λ fractions.
    Ok (record { unit = amount_settings t e name; fractions = fractions })))))

-- ---- only the form with the language first and the system count

module _ (book : BookTables) (p q : Preferences) (locales : language_priority p.locale ≡ language_priority q.locale) (systems : p.numbering_system ≡ q.numbering_system) (grouping : GroupingStrategy) where
  asked : symbols_identifiers (chain_in book) p ≡ symbols_identifiers (chain_in book) q
  asked = ap₂ (λ locale system. identifiers_along system (chain_in book locale)) locales systems

  digits_alike : (answer : Result Symbols DataError) → with_symbols grouping (digits_under book) p answer ≡ with_symbols grouping (digits_under book) q answer
  digits_alike (Ok table) = ap (λ system. with_digits grouping table (first_found (digits_under book) (digits_identifiers system table.strings.numsys))) systems
  digits_alike (Err error) = refl

  pub plain_alike : found_plain book p (Some grouping) ≡ found_plain book q (Some grouping)
  plain_alike =
      ap (λ ids. with_symbols grouping (digits_under book) p (first_found (symbols_under book) ids)) asked
      ∙ digits_alike (first_found (symbols_under book) (symbols_identifiers (chain_in book) q))

  pub compact_alike : (width : CompactWidth) → found_beside (patterns_under width book) book p (Some grouping) ≡ found_beside (patterns_under width book) book q (Some grouping)
  compact_alike width =
      ap (λ plain. with_plain plain (first_found (rules_under book) (rules_identifiers (chain_in book) p)) (first_found (patterns_under width book) (patterns_identifiers (chain_in book) p))) plain_alike
      ∙ ap (λ locale. with_plain (found_plain book q (Some grouping)) (first_found (rules_under book) (identifiers_along None (chain_in book locale))) (first_found (patterns_under width book) (patterns_identifiers (chain_in book) p))) locales
      ∙ ap (λ ids. with_plain (found_plain book q (Some grouping)) (first_found (rules_under book) (rules_identifiers (chain_in book) q)) (first_found (patterns_under width book) ids)) asked

  -- the locales that units are asked for along
  abbrev along : DataLocaleMeaning → List DataLocaleMeaning
  along locale = unit_chain (parent_under book) (steps_in book.parents) locale

  pub percents_alike : (sign : PercentSign) → percent_found_in book p (percent_options sign grouping) ≡ percent_found_in book q (percent_options sign grouping)
  percents_alike sign =
      ap (λ tables. percents_by (percents_in book) sign tables (along (language_priority p.locale)) p.numbering_system) plain_alike
      ∙ ap (λ locale. percents_by (percents_in book) sign (decimals_found (percents_in book).decimals q (Some grouping)) (along locale) p.numbering_system) locales
      ∙ ap (percents_by (percents_in book) sign (decimals_found (percents_in book).decimals q (Some grouping)) (along (language_priority q.locale))) systems

  pub amounts_alike : (code : Text) (options : CurrencyFormatterOptions) → options.grouping_strategy ≡ Some grouping → currency_found_in book p code options ≡ currency_found_in book q code options
  amounts_alike code options is =
      ap (λ option. amounts_by (currencies_in book) code options (decimals_found (currencies_in book).decimals p option) (along (language_priority p.locale)) p.numbering_system) is
      ∙ ap (λ tables. amounts_by (currencies_in book) code options tables (along (language_priority p.locale)) p.numbering_system) plain_alike
      ∙ ap (λ option. amounts_by (currencies_in book) code options (decimals_found (currencies_in book).decimals q option) (along (language_priority p.locale)) p.numbering_system) (sym is)
      ∙ ap (λ locale. amounts_by (currencies_in book) code options (decimals_found (currencies_in book).decimals q options.grouping_strategy) (along locale) p.numbering_system) locales
      ∙ ap (amounts_by (currencies_in book) code options (decimals_found (currencies_in book).decimals q options.grouping_strategy) (along (language_priority q.locale))) systems

  signs_alike : signs_found_in book p ≡ signs_found_in book q
  signs_alike = ap₂ (λ locale system. signs_found (signs_under book) (along locale) system) locales systems

  standard_alike : (beside : NumberUnit) → standard_found beside book p grouping ≡ standard_found beside book q grouping
  standard_alike unit.None = ap (mapped plain_tables) plain_alike
  standard_alike (unit.Percent sign) = ap (mapped (λ settings. unit_tables (percent_format sign settings))) (percents_alike sign)
  standard_alike (unit.Currency currency) =
      ap (mapped (λ settings. unit_tables (currency_format currency.code settings))) (amounts_alike currency.code (amount_options currency grouping) refl)

  compact_found_alike : (width : CompactWidth) (beside : NumberUnit) → compact_found width beside book p grouping ≡ compact_found width beside book q grouping
  compact_found_alike width unit.None = compact_alike width
  compact_found_alike width (unit.Percent sign) = refl
  compact_found_alike width (unit.Currency currency) = refl

  scientific_alike : (beside : NumberUnit) → scientific_found beside book p grouping ≡ scientific_found beside book q grouping
  scientific_alike unit.None = ap₂ with_signs plain_alike signs_alike
  scientific_alike (unit.Percent sign) = refl
  scientific_alike (unit.Currency currency) = refl

  notation_alike : (notation : Notation) (beside : NumberUnit) → notation_found notation beside book p grouping ≡ notation_found notation beside book q grouping
  notation_alike Standard beside = standard_alike beside
  notation_alike (Compact width) beside = ap (mapped compact_tables) (compact_found_alike width beside)
  notation_alike (CompactDigits width options) beside = ap (mapped (λ tables. digits_tables tables options)) (compact_found_alike width beside)
  notation_alike (Scientific style options) beside = ap (mapped (scientific_of style options)) (scientific_alike beside)

-- what is found for a shape
pub shape_alike : (book : BookTables) (p q : Preferences) → language_priority p.locale ≡ language_priority q.locale → p.numbering_system ≡ q.numbering_system
    → (shape : NumberShape) → found_for shape book p ≡ found_for shape book q
shape_alike book p q locales systems shape = notation_alike book p q locales systems shape.grouping shape.notation shape.unit
