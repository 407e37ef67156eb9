-- What a formatter of percents or of amounts writes with: the tables of plain text, and the units that are found.
-- Defined in docs/units.md, "Choosing units" and "Formatters".
-- Cited by `try_new_unstable` of both formatters, and by the laws of what equal preferences find.
use Rattle.std.specs.Prelude.{ℕ, List, Option, None, Some, Result, Ok, Err}
use Rattle.icu_decimal.specs.Chains.{chain}
use Rattle.icu_decimal.specs.Choice.{answered}
use Rattle.icu_decimal.specs.FoundTables.{found_tables}
use Rattle.icu_decimal.specs.PlainText.{Tables}
use Rattle.icu_decimal.specs.Symbols.{Symbols}
use Rattle.icu_decimal.specs.declared.error.DataError.{DataError}
use Rattle.icu_decimal.specs.declared.options.GroupingStrategy.{GroupingStrategy}
use Rattle.icu_locale_core.specs.Subtags.{Text}
use Rattle.icu_locale_core.specs.TagPreferences.{DataLocaleMeaning, Preferences, language_priority}
use Rattle.icu_dimension_affixes.specs.UnitPatterns.{chosen}
use Rattle.icu_dimension_affixes.specs.UnitText.{UnitSettings}
use Rattle.icu_dimension_affixes.specs.declared.unit.UnitKind.TheVariants.{Currency, Percent}
use Rattle.icu_dimension_fractions.specs.declared.fraction.FractionInfo.{FractionInfo}
use Rattle.icu_dimension.specs.ProvidedUnits.{AmountTexts, PercentTexts, SymbolText}
use Rattle.icu_dimension.specs.UnitChoice.{amounts_found, fractions_found, name_found, percent_found, unit_chain}
use Rattle.icu_dimension.specs.UnitSources.{CurrencySource, DecimalSource, PercentSource}
use Rattle.icu_dimension.specs.declared.options.CurrencyFormatterOptions.{CurrencyFormatterOptions}
use Rattle.icu_dimension.specs.declared.options.PercentFormatterOptions.{PercentFormatterOptions}
use Rattle.icu_dimension_fractions.specs.declared.PercentSign.{PercentSign}
use Rattle.icu_dimension_fractions.specs.declared.PercentSign.TheVariants as sign

-- what comes of a result, where there is one
abbrev pub then_found : {A B : Type 0} → Result A DataError → (A → Result B DataError) → Result B DataError
then_found (Ok found) next = next found
then_found (Err error) next = Err error

-- the tables of plain text
abbrev pub decimals_found : DecimalSource → Preferences → Option GroupingStrategy → Result Tables DataError
decimals_found s p option = found_tables (chain s.next s.limit) s.symbols s.digits p option

-- the locales that units are asked for along
abbrev pub unit_locales : DecimalSource → Preferences → List DataLocaleMeaning
unit_locales s p = unit_chain s.next s.limit (language_priority p.locale)

-- an entry's own symbols take the place of those of plain text
abbrev pub with_own : Option Symbols → Tables → Tables
with_own None t = t
with_own (Some own) t = record { symbols = own; digits = t.digits; strategy = t.strategy }

-- ---- percents

-- the text of a sign, where the entry has one
abbrev pub sign_found : PercentSign → PercentTexts → Result (List ℕ) DataError
sign_found sign.Percent e = Ok e.sign
sign_found sign.Permille e = answered e.permille

abbrev pub percent_settings : Tables → PercentTexts → List ℕ → UnitSettings
percent_settings t e text =
    record { tables = with_own e.symbols t; pattern = e.pattern; unit = record { kind = Percent; text = text } }

abbrev pub found_percent : PercentSource → Preferences → PercentFormatterOptions → Result UnitSettings DataError
found_percent s p options =
    then_found (decimals_found s.decimals p options.grouping_strategy) (λ t.
    then_found (percent_found s.percents (unit_locales s.decimals p) p.numbering_system) (λ e.
    then_found (sign_found options.sign e) (λ text.
    Ok (percent_settings t e text))))

-- ---- amounts

-- what amounts are written with, and the digits of their currency
pub record CurrencySettings : Type 0 where
  pub unit : UnitSettings
  pub fractions : FractionInfo

abbrev pub amount_settings : Tables → AmountTexts → SymbolText → UnitSettings
amount_settings t e name =
    record { tables = with_own e.symbols t; pattern = chosen e.patterns name.ends; unit = record { kind = Currency; text = name.text } }

abbrev pub found_currency : CurrencySource → Preferences → Text → CurrencyFormatterOptions → Result CurrencySettings DataError
found_currency s p code options =
    then_found (decimals_found s.decimals p options.grouping_strategy) (λ t.
    then_found (amounts_found options.style s.currencies s.accounts (unit_locales s.decimals p) p.numbering_system code) (λ e.
    then_found (name_found options.width s.symbols (unit_locales s.decimals p) code) (λ name.
    then_found (fractions_found s.fractions code) (λ fractions.
    Ok (record { unit = amount_settings t e name; fractions = fractions })))))
