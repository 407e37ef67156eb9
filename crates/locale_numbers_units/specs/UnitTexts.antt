-- What units are written with is texts: each symbol, sign and affix is UTF-8.
-- Defined in docs/books.md, "Units".
-- Cited by the law of texts.
use Rattle.std.specs.Prelude.{IfSome}
use Rattle.std.specs.List.{AllByRecursion}
use Rattle.std.specs.Str.{IsUtf8}
use Rattle.serde_json.specs.Data.{Items}
use Rattle.icu_decimal.specs.Symbols.{SymbolStrings}
use Rattle.icu_dimension.specs.ProvidedUnits.{AmountTexts, PercentTexts}
use Rattle.icu_dimension.specs.UnitPatterns.{AffixesText, PatternTexts}
use Rattle.locale_numbers_units.specs.Units.{AreUnits, UnitsTables}

-- ---- patterns

-- three texts around a number and its unit
pub record AreAffixTexts (affixes : AffixesText) : Type 0 where
  pub first : IsUtf8 affixes.first
  pub second : IsUtf8 affixes.second
  pub third : IsUtf8 affixes.third

-- and those that a sign has of its own
pub record ArePatternTexts (pattern : PatternTexts) : Type 0 where
  pub unsigned : AreAffixTexts pattern.unsigned
  pub minus : IfSome pattern.minus AreAffixTexts
  pub plus : IfSome pattern.plus AreAffixTexts

-- ---- symbols

pub record AreSymbolTexts (strings : SymbolStrings) : Type 0 where
  pub minus_prefix : IsUtf8 strings.minus_sign_prefix
  pub minus_suffix : IsUtf8 strings.minus_sign_suffix
  pub plus_prefix : IsUtf8 strings.plus_sign_prefix
  pub plus_suffix : IsUtf8 strings.plus_sign_suffix
  pub point : IsUtf8 strings.decimal_separator
  pub group : IsUtf8 strings.grouping_separator

-- ---- entries

pub record ArePercentTexts (percents : PercentTexts) : Type 0 where
  pub sign : IsUtf8 percents.sign
  pub permille : IfSome percents.permille IsUtf8
  pub symbols : IfSome percents.symbols (λ own. AreSymbolTexts own.strings)
  pub pattern : ArePatternTexts percents.pattern

pub record AreAmountTexts (amounts : AmountTexts) : Type 0 where
  pub symbols : IfSome amounts.symbols (λ own. AreSymbolTexts own.strings)
  pub standard : ArePatternTexts amounts.patterns.standard
  pub alpha_next_to_number : IfSome amounts.patterns.alpha_next_to_number ArePatternTexts

-- ---- units

-- each entry of units
pub record AreUnitTexts (units : UnitsTables) : Type 0 where
  pub percents : AllByRecursion (λ pair. ArePercentTexts pair.1) units.percents
  pub currencies : AllByRecursion (λ pair. AreAmountTexts pair.1) units.currencies
  pub accounts : AllByRecursion (λ pair. AreAmountTexts pair.1) units.accounts
  pub symbols : AllByRecursion (λ pair. IsUtf8 pair.1.text) units.symbols

-- arrays that are units are texts
abbrev pub UnitsAreTexts : Type 0
UnitsAreTexts = (percents currencies accounts symbols digits : Items) (units : UnitsTables)
    → AreUnits percents currencies accounts symbols digits units → AreUnitTexts units
