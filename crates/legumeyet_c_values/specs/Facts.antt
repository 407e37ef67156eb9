-- The facts of a formatter, by the numbers that the header has for them, and the text of each.
-- Defined in include/legumeyet.h, `legumeyet_formatter_tell`.
-- Cited by `fact_by` and `put_fact`, and by the exports that tell facts.
use Rattle.std.specs.Prelude.{◌≡◌, ℕ, List, [], ◌∷◌, ◌++◌, flat_map, Option, Some, None, option_map, unwrap_or, slice_get, encode_utf8_all, decimal}
use Rattle.icu_decimal_symbols.specs.Symbols.{SymbolStrings}
use Rattle.icu_dimension_fractions.specs.declared.FractionInfo.{FractionInfo}
use Rattle.icu_dimension_fractions.specs.declared.FractionIncrement.{FractionIncrement}
use Rattle.icu_dimension_fractions.specs.declared.FractionIncrement.TheVariants as increment
use Rattle.icu_plurals.specs.Categories.{word}
use Rattle.icu_plurals.specs.ListedRules.{categories_of}
use Rattle.icu_plurals.specs.Rules.{Rules}
use Rattle.icu_plurals.specs.declared.PluralCategory.{PluralCategory}
use Rattle.legumeyet_c_values.specs.declared.call_error.CallError.{CallError}
use Rattle.legumeyet_c_values.specs.declared.call_error.CallError.TheVariants.{UnknownOption}
use Rattle.legumeyet_c_values.specs.declared.fact_words.Fact.{Fact}
use Rattle.legumeyet_c_values.specs.declared.fact_words.Fact.TheVariants.{DecimalSeparator, GroupingSeparator, MinusBefore, MinusAfter, PlusBefore, PlusAfter, Digits, FractionDigits, CashDigits, CashIncrement, Categories}
use Rattle.legumeyet_c_values.specs.declared.facts.Facts.{Facts}

-- ---- numbers

-- by their numbers, of which 0 is none
abbrev pub facts : List (Option Fact)
facts =
    None
    ∷ Some DecimalSeparator ∷ Some GroupingSeparator ∷ Some MinusBefore ∷ Some MinusAfter ∷ Some PlusBefore ∷ Some PlusAfter ∷ Some Digits
    ∷ Some FractionDigits ∷ Some CashDigits ∷ Some CashIncrement ∷ Some Categories ∷ []

abbrev pub fact_numbered : ℕ → Option Fact
fact_numbered number = unwrap_or (slice_get facts number) None

-- ---- texts

-- what facts are told of: texts of symbols, digits, those of the currency, where there is one, and rules, where the words of plural categories are written
pub record Told : Type 0 where
  pub strings : SymbolStrings
  pub digits : List ℕ
  pub fractions : Option FractionInfo
  pub rules : Option Rules

abbrev pub told_of : Facts → Told
told_of f = record { strings = f.symbols.now.strings; digits = f.digits.now; fractions = f.fractions; rules = option_map (λ rules. rules.now) f.rules }

abbrev pub blank : ℕ
blank = 0x20

-- the word of a category after a blank
abbrev pub spaced : PluralCategory → List ℕ
spaced category = (blank ∷ []) ++ word category

-- words with blanks between
abbrev pub spaced_words : List PluralCategory → List ℕ
spaced_words [] = []
spaced_words (first ∷ others) = word first ++ flat_map spaced others

abbrev pub increment_of : FractionIncrement → ℕ
increment_of increment.MultiplesOf1 = 1
increment_of increment.MultiplesOf2 = 2
increment_of increment.MultiplesOf5 = 5
increment_of increment.MultiplesOf10 = 10
increment_of increment.MultiplesOf20 = 20
increment_of increment.MultiplesOf25 = 25
increment_of increment.MultiplesOf50 = 50

-- counts of the digits of a currency, in the digits of ASCII
abbrev pub count_of : Fact → Option FractionInfo → Option (List ℕ)
count_of FractionDigits fractions = option_map (λ digits. decimal digits.standard.digits) fractions
count_of CashDigits fractions = option_map (λ digits. decimal digits.cash.digits) fractions
count_of CashIncrement fractions = option_map (λ digits. decimal (increment_of digits.cash.increment)) fractions
count_of _ fractions = None

abbrev pub fact_text : Told → Fact → Option (List ℕ)
fact_text told DecimalSeparator = Some told.strings.decimal_separator
fact_text told GroupingSeparator = Some told.strings.grouping_separator
fact_text told MinusBefore = Some told.strings.minus_sign_prefix
fact_text told MinusAfter = Some told.strings.minus_sign_suffix
fact_text told PlusBefore = Some told.strings.plus_sign_prefix
fact_text told PlusAfter = Some told.strings.plus_sign_suffix
fact_text told Digits = Some (encode_utf8_all told.digits)
fact_text told Categories = option_map (λ rules. spaced_words (categories_of rules)) told.rules
fact_text told fact = count_of fact told.fractions

-- a formatter of this kind has no such fact
pub record IsNoFact (told : Told) (fact : Fact) (error : CallError) : Type 0 where
  pub is : error ≡ UnknownOption
  pub none : fact_text told fact ≡ None
