-- What preferences find: tables that answer as a book does find the same.
use Rattle.std.proofs.Common.{◌≡◌, ℕ, List, Some, Option, Result, ap, ◌∙◌}
use Rattle.icu_decimal.specs.CompactTables.{CompactTables}
use Rattle.icu_decimal.specs.FoundCompactTables.{found_compact_tables}
use Rattle.icu_decimal.specs.FoundTables.{found_tables}
use Rattle.icu_decimal.specs.Identifiers.{Identifier}
use Rattle.icu_decimal.specs.KeptEntries.{CompactTable}
use Rattle.icu_decimal.specs.PlainText.{Tables}
use Rattle.icu_decimal.specs.Rules.{Rules}
use Rattle.icu_decimal.specs.Symbols.{Symbols}
use Rattle.icu_decimal.specs.declared.error.DataError.{DataError}
use Rattle.icu_decimal.specs.declared.options.CompactDecimalFormatterOptions.{CompactDecimalFormatterOptions}
use Rattle.icu_decimal.specs.declared.options.DecimalFormatterOptions.{DecimalFormatterOptions}
use Rattle.icu_decimal.specs.declared.options.GroupingStrategy.{GroupingStrategy}
use Rattle.icu_dimension.specs.FoundUnits.{CurrencySettings, found_currency, found_percent}
use Rattle.icu_dimension.specs.ProvidedUnits.{AmountTexts, PercentTexts, SymbolText}
use Rattle.icu_dimension.specs.UnitChoice.{unit_chain}
use Rattle.icu_dimension.specs.UnitSources.{CurrencySource, DecimalSource, PercentSource}
use Rattle.icu_dimension.specs.UnitText.{UnitSettings}
use Rattle.icu_dimension.specs.declared.CurrencyFormatterOptions.{CurrencyFormatterOptions}
use Rattle.icu_dimension.specs.declared.FractionInfo.{FractionInfo}
use Rattle.icu_dimension.specs.declared.PercentFormatterOptions.{PercentFormatterOptions}
use Rattle.icu_locale_core.specs.Subtags.{Text}
use Rattle.icu_locale_core.specs.TagPreferences.{DataLocaleMeaning, Preferences, language_priority}
use Rattle.locale_numbers_book.specs.Book.{BookTables}
use Rattle.locale_numbers_book.specs.TagFormatters.{currencies_in, currency_found_in, decimals_in, found_beside, found_plain, patterns_under, percent_found_in, percents_in, signs_found_in}
use Rattle.locale_numbers_book.specs.Tables.{accounts_under, chain_in, currencies_under, currency_symbols_under, digits_under, fractions_under, parent_under, percents_under, rules_under, signs_under, steps_in, symbols_under}
use Rattle.locale_numbers_formats.specs.declared.CompactWidth.{CompactWidth}
use Rattle.locale_numbers_signs.specs.NumberSigns.{SignTexts}
use Rattle.locale_numbers_signs.specs.SignChoice.{signs_found}

-- ---- without a unit

module _ (chain : DataLocaleMeaning → List DataLocaleMeaning) (symbols : Identifier → Result Symbols DataError) (digits : Identifier → Result (List ℕ) DataError) (book : BookTables) (p : Preferences) (grouping : GroupingStrategy) (chains_agree : (l : DataLocaleMeaning) → chain l ≡ chain_in book l) (symbols_agree : (id : Identifier) → symbols id ≡ symbols_under book id) (digits_agree : (id : Identifier) → digits id ≡ digits_under book id) where
  chains_are : chain ≡ chain_in book
  chains_are = λ i l. chains_agree l i

  symbols_are : symbols ≡ symbols_under book
  symbols_are = λ i id. symbols_agree id i

  digits_are : digits ≡ digits_under book
  digits_are = λ i id. digits_agree id i

  pub plain_found_by : (options : DecimalFormatterOptions) (found : Result Tables DataError)
      → options ≡ record { grouping_strategy = Some grouping }
      → found ≡ found_tables chain symbols digits p options.grouping_strategy
      → found ≡ found_plain book p (Some grouping)
  plain_found_by options found made is =
      is
      ∙ ap (λ (o : DecimalFormatterOptions). found_tables chain symbols digits p o.grouping_strategy) made
      ∙ ap (λ along. found_tables along symbols digits p (Some grouping)) chains_are
      ∙ ap (λ s. found_tables (chain_in book) s digits p (Some grouping)) symbols_are
      ∙ ap (λ d. found_tables (chain_in book) (symbols_under book) d p (Some grouping)) digits_are

  pub compact_found_by : (width : CompactWidth) (rules : Identifier → Result Rules DataError) (patterns : Identifier → Result CompactTable DataError) (options : CompactDecimalFormatterOptions) (found : Result CompactTables DataError)
      → ((id : Identifier) → rules id ≡ rules_under book id) → ((id : Identifier) → patterns id ≡ patterns_under width book id)
      → options ≡ record { grouping_strategy = Some grouping }
      → found ≡ found_compact_tables chain symbols digits rules patterns p options.grouping_strategy
      → found ≡ found_beside (patterns_under width book) book p (Some grouping)
  compact_found_by width rules patterns options found rules_agree patterns_agree made is =
      let rules_are : rules ≡ rules_under book = λ i id. rules_agree id i in
      let patterns_are : patterns ≡ patterns_under width book = λ i id. patterns_agree id i in
      is
      ∙ ap (λ (o : CompactDecimalFormatterOptions). found_compact_tables chain symbols digits rules patterns p o.grouping_strategy) made
      ∙ ap (λ along. found_compact_tables along symbols digits rules patterns p (Some grouping)) chains_are
      ∙ ap (λ s. found_compact_tables (chain_in book) s digits rules patterns p (Some grouping)) symbols_are
      ∙ ap (λ d. found_compact_tables (chain_in book) (symbols_under book) d rules patterns p (Some grouping)) digits_are
      ∙ ap (λ r. found_compact_tables (chain_in book) (symbols_under book) (digits_under book) r patterns p (Some grouping)) rules_are
      ∙ ap (λ t. found_compact_tables (chain_in book) (symbols_under book) (digits_under book) (rules_under book) t p (Some grouping)) patterns_are

-- ---- with one

module _ (next : DataLocaleMeaning → Option DataLocaleMeaning) (limit : ℕ) (symbols : Identifier → Result Symbols DataError) (digits : Identifier → Result (List ℕ) DataError) (book : BookTables) (parents_agree : (l : DataLocaleMeaning) → next l ≡ parent_under book l) (limits_agree : limit ≡ steps_in book.parents) (symbols_agree : (id : Identifier) → symbols id ≡ symbols_under book id) (digits_agree : (id : Identifier) → digits id ≡ digits_under book id) where
  abbrev decimals : DecimalSource
  decimals = record { next = next; limit = limit; symbols = symbols; digits = digits }

  decimals_are : decimals ≡ decimals_in book
  decimals_are = λ i. record {
    next = λ l. parents_agree l i;
    limit = limits_agree i;
    symbols = λ id. symbols_agree id i;
    digits = λ id. digits_agree id i;
  }

  pub percents_found_by : (percents : Identifier → Result PercentTexts DataError) (p : Preferences) (options : PercentFormatterOptions) (found : Result UnitSettings DataError)
      → ((id : Identifier) → percents id ≡ percents_under book id)
      → found ≡ found_percent (record { decimals = record { next = next; limit = limit; symbols = symbols; digits = digits }; percents = percents }) p options
      → found ≡ percent_found_in book p options
  percents_found_by percents p options found percents_agree is =
      let same : ◌≡◌ {A = PercentSource} (record { decimals = record { next = next; limit = limit; symbols = symbols; digits = digits }; percents = percents }) (percents_in book) =
      λ i. record { decimals = decimals_are i; percents = λ id. percents_agree id i } in
      is ∙ ap (λ s. found_percent s p options) same

  pub amounts_found_by : (currencies accounts : Identifier → Result AmountTexts DataError) (names : Identifier → Result SymbolText DataError) (fractions : Identifier → Result FractionInfo DataError)
      (p : Preferences) (code : Text) (options wanted : CurrencyFormatterOptions) (found : Result CurrencySettings DataError)
      → ((id : Identifier) → currencies id ≡ currencies_under book id)
      → ((id : Identifier) → accounts id ≡ accounts_under book id)
      → ((id : Identifier) → names id ≡ currency_symbols_under book id)
      → ((id : Identifier) → fractions id ≡ fractions_under book id)
      → options ≡ wanted
      → found ≡ found_currency (record { decimals = record { next = next; limit = limit; symbols = symbols; digits = digits }; currencies = currencies; accounts = accounts; symbols = names; fractions = fractions }) p code options
      → found ≡ currency_found_in book p code wanted
  amounts_found_by currencies accounts names fractions p code options wanted found currencies_agree accounts_agree names_agree fractions_agree made is =
      let same : ◌≡◌ {A = CurrencySource} (record { decimals = record { next = next; limit = limit; symbols = symbols; digits = digits }; currencies = currencies; accounts = accounts; symbols = names; fractions = fractions }) (currencies_in book) =
      λ i. record {
        decimals = decimals_are i;
        currencies = λ id. currencies_agree id i;
        accounts = λ id. accounts_agree id i;
        symbols = λ id. names_agree id i;
        fractions = λ id. fractions_agree id i;
      } in
      is ∙ ap (λ s. found_currency s p code options) same ∙ ap (found_currency (currencies_in book) p code) made

-- ---- signs

pub signs_found_by : (next : DataLocaleMeaning → Option DataLocaleMeaning) (limit : ℕ) (signs : Identifier → Result SignTexts DataError) (book : BookTables) (p : Preferences) (found : Result SignTexts DataError)
    → ((l : DataLocaleMeaning) → next l ≡ parent_under book l) → limit ≡ steps_in book.parents → ((id : Identifier) → signs id ≡ signs_under book id)
    → found ≡ signs_found signs (unit_chain next limit (language_priority p.locale)) p.numbering_system
    → found ≡ signs_found_in book p
signs_found_by next limit signs book p found parents_agree limits_agree signs_agree is =
    is ∙ (λ i. signs_found (λ id. signs_agree id i) (unit_chain (λ l. parents_agree l i) (limits_agree i) (language_priority p.locale)) p.numbering_system)
