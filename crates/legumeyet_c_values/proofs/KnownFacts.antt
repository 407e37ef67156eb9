-- Values from outside that a wrong definition of facts does not survive: the numbers of include/legumeyet.h, and what CLDR has.
use Rattle.std.proofs.Common.{◌≡◌, [], ◌∷◌, Some, None, refl}
use Rattle.std.specs.Prelude.{codes, decimal}
use lib.Utf8.{encode}
use Rattle.icu_decimal_symbols.specs.Symbols.{english_symbols}
use Rattle.icu_dimension_fractions.specs.declared.FractionIncrement.TheVariants as increment
use Rattle.icu_dimension_fractions.specs.declared.FractionInfo.{FractionInfo}
use Rattle.icu_plurals.specs.Rules.{no_rules}
use Rattle.icu_plurals.specs.declared.PluralCategory.TheVariants.{Zero, One, Two, Few, Many, Other}
use Rattle.legumeyet_c_values.specs.Facts.{Told, count_of, fact_numbered, fact_text, spaced_words}
use Rattle.legumeyet_c_values.specs.declared.fact_words.Fact.TheVariants.{DecimalSeparator, GroupingSeparator, MinusBefore, MinusAfter, PlusBefore, PlusAfter, Digits, FractionDigits, CashDigits, CashIncrement, Categories}

-- ---- numbers

no_fact : fact_numbered 0 ≡ None
no_fact = refl

first_fact : fact_numbered 1 ≡ Some DecimalSeparator
first_fact = refl

second_fact : fact_numbered 2 ≡ Some GroupingSeparator
second_fact = refl

minus_before : fact_numbered 3 ≡ Some MinusBefore
minus_before = refl

minus_after : fact_numbered 4 ≡ Some MinusAfter
minus_after = refl

plus_before : fact_numbered 5 ≡ Some PlusBefore
plus_before = refl

plus_after : fact_numbered 6 ≡ Some PlusAfter
plus_after = refl

digits_seventh : fact_numbered 7 ≡ Some Digits
digits_seventh = refl

fraction_digits : fact_numbered 8 ≡ Some FractionDigits
fraction_digits = refl

cash_digits : fact_numbered 9 ≡ Some CashDigits
cash_digits = refl

cash_increment : fact_numbered 10 ≡ Some CashIncrement
cash_increment = refl

last_fact : fact_numbered 11 ≡ Some Categories
last_fact = refl

past_the_last : fact_numbered 12 ≡ None
past_the_last = refl

-- ---- texts

-- of francs, whose cash is in multiples of five of the last digit
abbrev francs : FractionInfo
francs = record {
  standard = record { digits = 2; increment = increment.MultiplesOf1 };
  cash = record { digits = 2; increment = increment.MultiplesOf5 };
}

abbrev english : Told
english = record { strings = english_symbols.strings; digits = codes "0123456789"; fractions = None; rules = None }

point : fact_text english DecimalSeparator ≡ Some (codes ".")
point = refl

nothing_after : fact_text english MinusAfter ≡ Some []
nothing_after = refl

ten_digits : fact_text english Digits ≡ Some (codes "0123456789")
unfolding encode
ten_digits = refl

arabic_zero : fact_text (record english { digits = 0x660 ∷ [] }) Digits ≡ Some (0xD9 ∷ 0xA0 ∷ [])
unfolding encode
arabic_zero = refl

no_currency : fact_text english CashDigits ≡ None
no_currency = refl

no_categories : fact_text english Categories ≡ None
no_categories = refl

only_other : fact_text (record english { rules = Some no_rules }) Categories ≡ Some (codes "other")
only_other = refl

all_six : spaced_words (Zero ∷ One ∷ Two ∷ Few ∷ Many ∷ Other ∷ []) ≡ codes "zero one two few many other"
all_six = refl

francs_in_cash : count_of CashIncrement (Some francs) ≡ Some (decimal 5)
francs_in_cash = refl
