-- What a formatter of percents or of amounts borrows.
-- Defined in docs/units.md, "Formatters".
-- Cited by the calls of `PercentFormatter` and `CurrencyFormatter`.
use Rattle.std.specs.Prelude.{ℕ, List, [], ◌∷◌, codes}
use Rattle.std.specs.Option.{option_copied}
use Rattle.icu_decimal.specs.BorrowedTables.{borrowed_tables}
use Rattle.icu_dimension_affixes.specs.UnitText.{UnitSettings}
use Rattle.icu_dimension_affixes.specs.declared.unit.UnitKind.TheVariants.{Currency, Percent}
use Rattle.icu_dimension_fractions.specs.declared.fraction.FractionInfo.{FractionInfo}
use Rattle.icu_dimension.specs.FoundUnits.{CurrencySettings}
use Rattle.icu_dimension.specs.ProvidedUnits.{written_as}
use Rattle.icu_dimension.specs.declared.currency.CurrencyFormatter.{CurrencyFormatter}
use Rattle.icu_dimension_fractions.specs.declared.PercentSign.{PercentSign}
use Rattle.icu_dimension_fractions.specs.declared.PercentSign.TheVariants as sign
use Rattle.icu_dimension.specs.declared.percent.PercentFormatter.{PercentFormatter}

abbrev pub settings_of_percent : PercentFormatter → UnitSettings
settings_of_percent f = record {
  tables = borrowed_tables f.decimals;
  pattern = f.pattern.now;
  unit = record { kind = Percent; text = f.text.now };
}

abbrev pub sign_of : PercentFormatter → PercentSign
sign_of f = f.sign

-- what people type for a sign: % or ‰
abbrev pub typed_sign : PercentSign → List ℕ
typed_sign sign.Percent = codes "%"
typed_sign sign.Permille = 226 ∷ 128 ∷ 176 ∷ []

abbrev pub settings_of_currency : CurrencyFormatter → UnitSettings
settings_of_currency f = record {
  tables = borrowed_tables f.decimals;
  pattern = f.pattern.now;
  unit = record { kind = Currency; text = (written_as (option_copied f.symbol) f.code).text };
}

abbrev pub fractions_of : CurrencyFormatter → FractionInfo
fractions_of f = f.fractions

abbrev pub code_of : CurrencyFormatter → List ℕ
code_of f = f.code

-- what amounts are written with and the digits of their currency, together
abbrev pub currency_settings_of : CurrencyFormatter → CurrencySettings
currency_settings_of f = record { unit = settings_of_currency f; fractions = fractions_of f }
