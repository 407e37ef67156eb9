-- The text of a scientific number and its parts: the significand, the text before exponents and the exponent, between the affixes of the significand's sign.
-- UTS 35, part 3 (numbers), scientific notation; docs/scientific-text.md, "The text" and "Parts".
-- Cited by the calls of `ScientificTables`, by the view and the events of `NumberWithExponent`, and by the laws of texts.
use Rattle.std.specs.Prelude.{ℕ, List, [], ◌++◌, codes}
use Rattle.writeable.specs.AnnotatedText.{Event, closing, opening, without_parts}
use Rattle.fixed_decimal.specs.Number.{Number}
use Rattle.fixed_decimal.specs.ScientificText.{ScientificValue}
use Rattle.fixed_decimal.specs.SignedValue.{SignedValue}
use Rattle.fixed_decimal.specs.declared.Sign.{Sign}
use Rattle.fixed_decimal.specs.declared.Sign.TheVariants.{None as NoSign, Negative, Positive}
use Rattle.icu_decimal_plain.specs.Affixes.{WithSign, affixes_of, as_part, decimal_part, events_with_sign}
use Rattle.icu_decimal_plain.specs.PlainText.{PlainNumber, Tables, decimal_text, prefix_text, suffix_text, unsigned_events, unsigned_text}

-- what scientific numbers are written with: the tables of significands, the text before exponents, and the tables of exponents
pub record ScientificSettings : Type 0 where
  pub tables : Tables
  pub separator : List ℕ
  pub exponents : Tables

-- ---- the text

-- without the sign of the significand
abbrev pub exponential_text : ScientificSettings → Number → SignedValue Number → List ℕ
exponential_text s n exponent = unsigned_text s.tables n ++ (s.separator ++ decimal_text s.exponents exponent)

abbrev pub scientific_text : ScientificSettings → ScientificValue → List ℕ
scientific_text s v =
    let affixes = affixes_of s.tables.symbols.strings v.significand.sign in
    prefix_text affixes ++ (exponential_text s v.significand.absolute v.exponent ++ suffix_text affixes)

-- ---- the text with its parts

-- an affix of the sign of an exponent, as its part
abbrev pub sign_events : Sign → List ℕ → List Event
sign_events NoSign text = []
sign_events Negative text = as_part (decimal_part (codes "exponentMinusSign")) text
sign_events Positive text = as_part (decimal_part (codes "exponentPlusSign")) text

-- the digits of an exponent, as one part
abbrev pub integer_events : PlainNumber → List Event
integer_events n = opening (decimal_part (codes "exponentInteger")) ++ (without_parts (unsigned_events n) ++ closing)

-- an exponent: its digits between the affixes of its sign
pub record SignedExponent : Type 0 where
  pub sign : Sign
  pub prefix : List ℕ
  pub suffix : List ℕ
  pub number : PlainNumber

abbrev pub exponent_events : SignedExponent → List Event
exponent_events e = sign_events e.sign e.prefix ++ (integer_events e.number ++ sign_events e.sign e.suffix)

-- a number without its sign, the text before exponents, and the exponent
pub record Exponential : Type 0 where
  pub number : PlainNumber
  pub separator : List ℕ
  pub exponent : SignedExponent

abbrev pub exponential_events : Exponential → List Event
exponential_events n =
    unsigned_events n.number ++ (as_part (decimal_part (codes "exponentSeparator")) n.separator ++ exponent_events n.exponent)

-- an exponent with the affixes that its sign has in these tables
abbrev pub signed_exponent : Tables → SignedValue Number → SignedExponent
signed_exponent t exponent =
    let affixes = affixes_of t.symbols.strings exponent.sign in
    record {
      sign = exponent.sign;
      prefix = prefix_text affixes;
      suffix = suffix_text affixes;
      number = record { number = exponent.absolute; tables = t };
    }

-- what a scientific number is written as
abbrev pub scientific_formatted : ScientificSettings → ScientificValue → WithSign Exponential
scientific_formatted s v = record {
  value = record {
    number = record { number = v.significand.absolute; tables = s.tables };
    separator = s.separator;
    exponent = signed_exponent s.exponents v.exponent;
  };
  affixes = affixes_of s.tables.symbols.strings v.significand.sign;
}

abbrev pub scientific_events : WithSign Exponential → List Event
scientific_events s = events_with_sign exponential_events s
