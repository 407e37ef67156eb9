-- A book that serves preferences answers as the larger one: `specs/Serving.antt`.
use Rattle.std.proofs.Common.{◌≡◌, ℕ, List, [], ◌∷◌, ◌++◌, Option, Some, None, Result, Ok, Err, refl, sym, ap, ap₂, ◌∙◌}
use Rattle.std.specs.Prelude.{option_map, unwrap_or}
use Rattle.std.specs.Result.{result_ok}
use Rattle.icu_decimal.specs.Choice.{first_found, found_or, or_next}
use Rattle.icu_decimal.specs.FoundCompactTables.{patterns_identifiers, rules_identifiers, with_plain}
use Rattle.icu_decimal.specs.FoundTables.{found_tables, with_digits, with_symbols}
use Rattle.icu_decimal.specs.Identifiers.{Identifier, digits_identifiers, identifiers_along, symbols_identifiers, under_each}
use Rattle.icu_decimal.specs.PlainText.{Tables}
use Rattle.icu_decimal.specs.Rules.{Rules}
use Rattle.icu_decimal.specs.Symbols.{Symbols}
use Rattle.icu_decimal.specs.declared.error.DataError.{DataError}
use Rattle.icu_decimal.specs.declared.options.GroupingStrategy.{GroupingStrategy}
use Rattle.icu_dimension.specs.FoundUnits.{CurrencySettings, amount_settings, percent_settings, sign_found, then_found}
use Rattle.icu_dimension.specs.ProvidedUnits.{AmountTexts, PercentTexts, SymbolText, usual_fractions, written_as}
use Rattle.icu_dimension.specs.UnitChoice.{amounts_found, fractions_found, name_found, or_usual, percent_found, usual_amounts}
use Rattle.icu_dimension.specs.declared.CurrencyFormatterOptions.{CurrencyFormatterOptions}
use Rattle.icu_dimension.specs.declared.CurrencyStyle.{CurrencyStyle}
use Rattle.icu_dimension.specs.declared.CurrencyStyle.TheVariants as way
use Rattle.icu_dimension.specs.declared.CurrencyWidth.{CurrencyWidth}
use Rattle.icu_dimension.specs.declared.CurrencyWidth.TheVariants as width
use Rattle.icu_dimension.specs.declared.FractionInfo.{FractionInfo}
use Rattle.icu_dimension.specs.declared.PercentSign.{PercentSign}
use Rattle.icu_dimension.specs.UnitText.{UnitSettings}
use Rattle.icu_locale_core.specs.DataLocales.{unknown_data}
use Rattle.icu_locale_core.specs.Subtags.{Text}
use Rattle.icu_locale_core.specs.TagPreferences.{Preferences, language_priority}
use Rattle.icu_plurals.specs.declared.PluralRange.{PluralRange}
use Rattle.icu_plurals.specs.declared.PluralRuleType.{PluralRuleType}
use Rattle.icu_plurals.specs.declared.PluralRuleType.TheVariants.{Cardinal, Ordinal}
use Rattle.locale_numbers_answers.specs.Answers.{answer_by}
use Rattle.locale_numbers_book.specs.Book.{BookTables}
use Rattle.locale_numbers_book.specs.FoundFormats.{amount_options, compact_found, found_for, in_latin, mapped, notation_found, percent_options, scientific_found, scientific_of, standard_found, with_signs}
use Rattle.locale_numbers_book.specs.FoundLocale.{found_locale, locale_under}
use Rattle.locale_numbers_book.specs.FoundRules.{chain_with_unknown}
use Rattle.locale_numbers_book.specs.TagFormatters.{currency_found_in, found_beside, found_plain, patterns_under, percent_found_in, signs_found_in}
use Rattle.locale_numbers_book.specs.Tables.{accounts_under, chain_in, currencies_under, currency_symbols_under, digits_under, fractions_under, long_under, ordinals_under, percents_under, ranges_under, rules_under, short_under, signs_under, symbols_under}
use Rattle.locale_numbers_book.specs.Wanted.{wanted_of}
use Rattle.locale_numbers_formats.specs.declared.CompactWidth.{CompactWidth}
use Rattle.locale_numbers_formats.specs.declared.CompactWidth.TheVariants as patterns
use Rattle.locale_numbers_formats.specs.declared.Notation.{Notation}
use Rattle.locale_numbers_formats.specs.declared.Notation.TheVariants.{Standard, Compact, CompactDigits, Scientific}
use Rattle.locale_numbers_formats.specs.declared.NumberShape.{NumberShape}
use Rattle.locale_numbers_formats.specs.declared.NumberUnit.{NumberUnit}
use Rattle.locale_numbers_formats.specs.declared.NumberUnit.TheVariants as unit
use Rattle.locale_numbers_formatter.specs.FormatText.{compact_tables, digits_tables, plain_tables, unit_tables}
use Rattle.locale_numbers_formatter.specs.HeldFormats.{currency_format, percent_format}
use Rattle.locale_numbers_requests.specs.Request.{Asked, request_of}
use Rattle.locale_numbers.specs.Answer.{answer_asked, answer_of, answer_tagged, plural_rules_for, second_for}
use Rattle.locale_numbers.specs.Serving.{Agree, Serves, unit_locales_in}
use Rattle.locale_numbers.proofs.SecondLemmas.{second_same}

-- ---- the first that is found

agreed_or : {T : Type 0} (small whole : Identifier → Result T DataError) (otherwise : DataError) (ids : List Identifier) → Agree small whole ids → found_or small otherwise ids ≡ found_or whole otherwise ids
agreed_or small whole otherwise [] h = refl
agreed_or small whole otherwise (id ∷ ids) h = ap₂ or_next h.0 (agreed_or small whole DataError.IdentifierNotFound ids h.1)

pub agreed : {T : Type 0} (small whole : Identifier → Result T DataError) (ids : List Identifier) → Agree small whole ids → first_found small ids ≡ first_found whole ids
agreed small whole ids h = agreed_or small whole DataError.InvalidRequest ids h

module _ (small whole : BookTables) (p : Preferences) (serves : Serves small whole p) where
  -- ---- the locale

  located_each : (ids : List Identifier) → Agree (symbols_under small) (symbols_under whole) ids → Agree (locale_under small) (locale_under whole) ids
  located_each [] h = tt
  located_each (id ∷ ids) h = (ap (mapped (λ (symbols : Symbols). id.locale)) h.0, located_each ids h.1)

  pub located : found_locale small p ≡ found_locale whole p
  located =
      ap (λ locales. first_found (locale_under small) (identifiers_along p.numbering_system locales)) serves.chains
      ∙ agreed (locale_under small) (locale_under whole) (symbols_identifiers (chain_in whole) p) (located_each (symbols_identifiers (chain_in whole) p) serves.symbols)

  -- ---- numbers

  symbols_ids : symbols_identifiers (chain_in small) p ≡ symbols_identifiers (chain_in whole) p
  symbols_ids = ap (identifiers_along p.numbering_system) serves.chains

  symbols_same : first_found (symbols_under small) (symbols_identifiers (chain_in small) p) ≡ first_found (symbols_under whole) (symbols_identifiers (chain_in whole) p)
  symbols_same = ap (first_found (symbols_under small)) symbols_ids ∙ agreed (symbols_under small) (symbols_under whole) (symbols_identifiers (chain_in whole) p) serves.symbols

  digits_same : (strategy : GroupingStrategy) (answer : Result Symbols DataError) → first_found (symbols_under whole) (symbols_identifiers (chain_in whole) p) ≡ answer
      → with_symbols strategy (digits_under small) p answer ≡ with_symbols strategy (digits_under whole) p answer
  digits_same strategy (Ok symbols) is =
      ap (with_digits strategy symbols) (agreed (digits_under small) (digits_under whole) (digits_identifiers p.numbering_system symbols.strings.numsys) (serves.digits symbols is))
  digits_same strategy (Err error) is = refl

  pub plain_same : (grouping : GroupingStrategy) → found_plain small p (Some grouping) ≡ found_plain whole p (Some grouping)
  plain_same grouping =
      ap (with_symbols grouping (digits_under small) p) symbols_same
      ∙ digits_same grouping (first_found (symbols_under whole) (symbols_identifiers (chain_in whole) p)) refl

  rules_same : first_found (rules_under small) (rules_identifiers (chain_in small) p) ≡ first_found (rules_under whole) (rules_identifiers (chain_in whole) p)
  rules_same =
      ap (λ locales. first_found (rules_under small) (identifiers_along None locales)) serves.chains
      ∙ agreed (rules_under small) (rules_under whole) (rules_identifiers (chain_in whole) p) serves.rules

  patterns_same : (length : CompactWidth) → first_found (patterns_under length small) (patterns_identifiers (chain_in small) p) ≡ first_found (patterns_under length whole) (patterns_identifiers (chain_in whole) p)
  patterns_same patterns.Short = ap (first_found (short_under small)) symbols_ids ∙ agreed (short_under small) (short_under whole) (patterns_identifiers (chain_in whole) p) serves.short
  patterns_same patterns.Long = ap (first_found (long_under small)) symbols_ids ∙ agreed (long_under small) (long_under whole) (patterns_identifiers (chain_in whole) p) serves.long

  compact_same : (length : CompactWidth) (grouping : GroupingStrategy) → found_beside (patterns_under length small) small p (Some grouping) ≡ found_beside (patterns_under length whole) whole p (Some grouping)
  compact_same length grouping =
      ap₂ (λ plain rules. with_plain plain rules (first_found (patterns_under length small) (patterns_identifiers (chain_in small) p))) (plain_same grouping) rules_same
      ∙ ap (with_plain (found_plain whole p (Some grouping)) (first_found (rules_under whole) (rules_identifiers (chain_in whole) p))) (patterns_same length)

  -- ---- units

  locales_same : unit_locales_in small p ≡ unit_locales_in whole p
  locales_same = ap₂ (λ along last. along ++ last) serves.chains serves.rooted

  abbrev put_percents : PercentSign → Result Tables DataError → Result PercentTexts DataError → Result UnitSettings DataError
  put_percents of tables texts = then_found tables (λ t. then_found texts (λ e. then_found (sign_found of e) (λ text. Ok (percent_settings t e text))))

  percents_same : (of : PercentSign) (grouping : GroupingStrategy) → percent_found_in small p (percent_options of grouping) ≡ percent_found_in whole p (percent_options of grouping)
  percents_same of grouping =
      ap₂ (λ tables locales. put_percents of tables (percent_found (percents_under small) locales p.numbering_system)) (plain_same grouping) locales_same
      ∙ ap (put_percents of (found_plain whole p (Some grouping)))
      (agreed (percents_under small) (percents_under whole) (identifiers_along p.numbering_system (unit_locales_in whole p)) serves.percents)

  usual_same : (style : CurrencyStyle) → usual_amounts style (currencies_under small) (accounts_under small) (unit_locales_in whole p) p.numbering_system
      ≡ usual_amounts style (currencies_under whole) (accounts_under whole) (unit_locales_in whole p) p.numbering_system
  usual_same way.Standard = agreed (currencies_under small) (currencies_under whole) (identifiers_along p.numbering_system (unit_locales_in whole p)) serves.currencies
  usual_same way.Accounting =
      ap₂ or_next (agreed (accounts_under small) (accounts_under whole) (identifiers_along p.numbering_system (unit_locales_in whole p)) serves.accounts)
      (agreed (currencies_under small) (currencies_under whole) (identifiers_along p.numbering_system (unit_locales_in whole p)) serves.currencies)

  amounts_same : (style : CurrencyStyle) (code : Text) → amounts_found style (currencies_under small) (accounts_under small) (unit_locales_in small p) p.numbering_system code
      ≡ amounts_found style (currencies_under whole) (accounts_under whole) (unit_locales_in whole p) p.numbering_system code
  amounts_same style code =
      ap (λ locales. amounts_found style (currencies_under small) (accounts_under small) locales p.numbering_system code) locales_same
      ∙ ap₂ or_next (agreed (currencies_under small) (currencies_under whole) (under_each code (unit_locales_in whole p)) (serves.coded code)) (usual_same style)

  names_same : (wide : CurrencyWidth) (code : Text) → name_found wide (currency_symbols_under small) (unit_locales_in small p) code ≡ name_found wide (currency_symbols_under whole) (unit_locales_in whole p) code
  names_same width.Short code =
      ap (λ locales. or_usual (first_found (currency_symbols_under small) (under_each code locales)) (written_as None code)) locales_same
      ∙ ap (λ found. or_usual found (written_as None code)) (agreed (currency_symbols_under small) (currency_symbols_under whole) (under_each code (unit_locales_in whole p)) (serves.names code))
  names_same width.IsoCode code = refl

  abbrev put_together : Result Tables DataError → Result AmountTexts DataError → Result SymbolText DataError → Result FractionInfo DataError → Result CurrencySettings DataError
  put_together tables texts names fractions =
      then_found tables (λ t. then_found texts (λ e. then_found names (λ name. then_found fractions (λ fractions. Ok (record { unit = amount_settings t e name; fractions = fractions })))))

  currency_same : (code : Text) (options : CurrencyFormatterOptions) (grouping : GroupingStrategy) → options.grouping_strategy ≡ Some grouping → currency_found_in small p code options ≡ currency_found_in whole p code options
  currency_same code options grouping is =
      let plain : found_tables (chain_in small) (symbols_under small) (digits_under small) p options.grouping_strategy ≡ found_tables (chain_in whole) (symbols_under whole) (digits_under whole) p options.grouping_strategy =
      ap (found_tables (chain_in small) (symbols_under small) (digits_under small) p) is ∙ plain_same grouping ∙ sym (ap (found_tables (chain_in whole) (symbols_under whole) (digits_under whole) p) is) in
      ap₂ (λ tables texts. put_together tables texts (name_found options.width (currency_symbols_under small) (unit_locales_in small p) code) (fractions_found (fractions_under small) code)) plain (amounts_same options.style code)
      ∙ ap₂ (put_together (found_tables (chain_in whole) (symbols_under whole) (digits_under whole) p options.grouping_strategy) (amounts_found options.style (currencies_under whole) (accounts_under whole) (unit_locales_in whole p) p.numbering_system code))
      (names_same options.width code) (ap (λ found. or_usual found usual_fractions) (serves.fractions code))

  -- ---- signs

  signs_same : signs_found_in small p ≡ signs_found_in whole p
  signs_same =
      ap (λ locales. first_found (signs_under small) (identifiers_along p.numbering_system locales)) locales_same
      ∙ agreed (signs_under small) (signs_under whole) (identifiers_along p.numbering_system (unit_locales_in whole p)) serves.signs

  -- ---- shapes

  standard_same : (of : NumberUnit) (grouping : GroupingStrategy) → standard_found of small p grouping ≡ standard_found of whole p grouping
  standard_same unit.None grouping = ap (mapped plain_tables) (plain_same grouping)
  standard_same (unit.Percent sign) grouping = ap (mapped (λ settings. unit_tables (percent_format sign settings))) (percents_same sign grouping)
  standard_same (unit.Currency currency) grouping =
      ap (mapped (λ settings. unit_tables (currency_format currency.code settings))) (currency_same currency.code (amount_options currency grouping) grouping refl)

  compact_found_same : (wide : CompactWidth) (of : NumberUnit) (grouping : GroupingStrategy) → compact_found wide of small p grouping ≡ compact_found wide of whole p grouping
  compact_found_same wide unit.None grouping = compact_same wide grouping
  compact_found_same wide _ grouping = refl

  scientific_same : (of : NumberUnit) (grouping : GroupingStrategy) → scientific_found of small p grouping ≡ scientific_found of whole p grouping
  scientific_same unit.None grouping = ap₂ with_signs (plain_same grouping) signs_same
  scientific_same _ grouping = refl

  notation_same : (notation : Notation) (of : NumberUnit) (grouping : GroupingStrategy) → notation_found notation of small p grouping ≡ notation_found notation of whole p grouping
  notation_same Standard of grouping = standard_same of grouping
  notation_same (Compact wide) of grouping = ap (mapped compact_tables) (compact_found_same wide of grouping)
  notation_same (CompactDigits wide options) of grouping = ap (mapped (λ tables. digits_tables tables options)) (compact_found_same wide of grouping)
  notation_same (Scientific style options) of grouping = ap (mapped (scientific_of style options)) (scientific_same of grouping)

  pub shape_same : (shape : NumberShape) → found_for shape small p ≡ found_for shape whole p
  shape_same shape = notation_same shape.notation shape.unit shape.grouping

  -- ---- plurals

  unknown_same : chain_with_unknown small (language_priority p.locale) ≡ chain_with_unknown whole (language_priority p.locale)
  unknown_same = ap (λ locales. locales ++ unknown_data ∷ []) serves.chains

  ordinals_same : first_found (ordinals_under small) (identifiers_along None (chain_with_unknown small (language_priority p.locale)))
      ≡ first_found (ordinals_under whole) (identifiers_along None (chain_with_unknown whole (language_priority p.locale)))
  ordinals_same =
      ap (λ locales. first_found (ordinals_under small) (identifiers_along None locales)) unknown_same
      ∙ agreed (ordinals_under small) (ordinals_under whole) (identifiers_along None (chain_with_unknown whole (language_priority p.locale))) serves.ordinals

  ranges_same : first_found (ranges_under small) (identifiers_along None (chain_with_unknown small (language_priority p.locale)))
      ≡ first_found (ranges_under whole) (identifiers_along None (chain_with_unknown whole (language_priority p.locale)))
  ranges_same =
      ap (λ locales. first_found (ranges_under small) (identifiers_along None locales)) unknown_same
      ∙ agreed (ranges_under small) (ranges_under whole) (identifiers_along None (chain_with_unknown whole (language_priority p.locale))) serves.ranges

  abbrev ruled : Result Rules DataError → Result (List PluralRange) DataError → Option (Rules × List PluralRange)
  ruled rules ranges = option_map {T = Rules} {U = Rules × List PluralRange} (λ r. (r, unwrap_or (result_ok ranges) [])) (result_ok rules)

  pub rules_served : (rule_type : PluralRuleType) → plural_rules_for rule_type small p ≡ plural_rules_for rule_type whole p
  rules_served Cardinal = ap₂ ruled rules_same ranges_same
  rules_served Ordinal = ap₂ ruled ordinals_same ranges_same

-- ---- answers

pub answered_alike : (small whole : BookTables) (line : List ℕ) (asked : Asked) (p : Preferences)
    → request_of line ≡ Some asked → wanted_of asked.tag ≡ Some p → Serves small whole p → Serves small whole (in_latin p)
    → answer_of small line ≡ answer_of whole line
answered_alike small whole line asked p is wants serves latin =
    ap (answer_asked small) is
    ∙ ap (λ preferences. answer_tagged small preferences asked) wants
    ∙ ap₂ (λ found second. answer_by asked.task asked.format found second (λ rule_type. plural_rules_for rule_type small p) asked.text) (shape_same small whole p serves asked.format.shape)
    (second_same small whole p p asked.format.shape (plain_same small whole p serves asked.format.shape.grouping) (shape_same small whole (in_latin p) latin asked.format.shape))
    ∙ ap (λ rules. answer_by asked.task asked.format (found_for asked.format.shape whole p) (second_for asked.format.shape whole p) rules asked.text)
    (λ i rule_type. rules_served small whole p serves rule_type i)
    ∙ sym (ap (λ preferences. answer_tagged whole preferences asked) wants)
    ∙ sym (ap (answer_asked whole) is)
