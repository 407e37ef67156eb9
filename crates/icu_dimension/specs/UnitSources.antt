-- What a provider has of the tables that a formatter of percents or of amounts asks for, under each identifier.
-- Defined in docs/units.md, "Choosing units".
-- Cited by `try_new_unstable` of both formatters.
use Rattle.std.specs.Prelude.{ℕ, List, Option, Result}
use Rattle.icu_decimal.specs.Identifiers.{Identifier}
use Rattle.icu_decimal.specs.Symbols.{Symbols}
use Rattle.icu_decimal.specs.declared.error.DataError.{DataError}
use Rattle.icu_dimension_fractions.specs.declared.fraction.FractionInfo.{FractionInfo}
use Rattle.icu_locale_core.specs.TagPreferences.{DataLocaleMeaning}
use Rattle.icu_dimension.specs.ProvidedUnits.{AmountTexts, PercentTexts, SymbolText}

-- the step to the next locale, how many steps are taken at most, and the tables of plain text
pub record DecimalSource : Type 0 where
  pub next : DataLocaleMeaning → Option DataLocaleMeaning
  pub limit : ℕ
  pub symbols : Identifier → Result Symbols DataError
  pub digits : Identifier → Result (List ℕ) DataError

pub record PercentSource : Type 0 where
  pub decimals : DecimalSource
  pub percents : Identifier → Result PercentTexts DataError

pub record CurrencySource : Type 0 where
  pub decimals : DecimalSource
  pub currencies : Identifier → Result AmountTexts DataError
  pub accounts : Identifier → Result AmountTexts DataError
  pub symbols : Identifier → Result SymbolText DataError
  pub fractions : Identifier → Result FractionInfo DataError
