-- The tables of units: a percent sign with its pattern, patterns of amounts, symbols of currencies, and what takes its place where a
-- currency has no symbol or no digits.
-- UTS 35, part 3 (numbers), number patterns, currencies and supplemental currency data; docs/units.md, "Choosing units".
-- Cited by the types of `provider`, and by what formatters find.
use Rattle.std.specs.Prelude.{ℕ, List, Option, None, Some, true}
use Rattle.icu_decimal.specs.Symbols.{Symbols}
use Rattle.icu_dimension_affixes.specs.UnitPatterns.{PatternChoice, PatternTexts}
use Rattle.icu_dimension_affixes.specs.declared.patterns.LetterEnds.{LetterEnds}
use Rattle.icu_dimension_fractions.specs.declared.fraction.Fraction.{Fraction}
use Rattle.icu_dimension_fractions.specs.declared.fraction.FractionInfo.{FractionInfo}
use Rattle.icu_dimension_fractions.specs.declared.increment.FractionIncrement.TheVariants.{MultiplesOf1}

-- the percent sign, the permille sign or none, symbols of percents' own or none, and the pattern
pub record PercentTexts : Type 0 where
  pub sign : List ℕ
  pub permille : Option (List ℕ)
  pub symbols : Option Symbols
  pub pattern : PatternTexts

-- symbols of amounts' own or none, and the patterns
pub record AmountTexts : Type 0 where
  pub symbols : Option Symbols
  pub patterns : PatternChoice

-- a symbol, and which of its ends are letters
pub record SymbolText : Type 0 where
  pub text : List ℕ
  pub ends : LetterEnds

-- how a currency is written: by its symbol, or by its code, both of whose ends are letters
abbrev pub written_as : Option SymbolText → List ℕ → SymbolText
written_as (Some symbol) code = symbol
written_as None code = record { text = code; ends = record { first = true; last = true } }

-- two digits, and multiples of 1
abbrev pub two_digits : Fraction
two_digits = record { digits = 2; increment = MultiplesOf1 }

-- the digits of a currency that says nothing else, in cash too
abbrev pub usual_fractions : FractionInfo
usual_fractions = record { standard = two_digits; cash = two_digits }
