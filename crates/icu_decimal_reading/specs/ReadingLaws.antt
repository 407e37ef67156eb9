-- Laws of reading, over the definitions alone.
-- Defined in docs/reading.md, "Laws".
-- Cited by the functions of `laws`.
use Rattle.std.specs.Prelude.{◌≡◌, ◌↔◌, ℕ, true, List, length}
use Rattle.std.specs.Char.{IsScalar}
use Rattle.std.specs.List.{AllByRecursion}
use Rattle.std.specs.Str.{IsUtf8}
use Rattle.fixed_decimal.specs.Number.{Number}
use Rattle.fixed_decimal.specs.SignedValue.{SignedValue}
use Rattle.fixed_decimal.specs.TextLaws.{IsDecimal}
use Rattle.icu_decimal_symbols.specs.declared.options.GroupingStrategy.TheVariants.{Auto, Always}
use Rattle.icu_decimal_plain.specs.PlainText.{Tables, decimal_text}
use Rattle.icu_decimal_reading.specs.Readable.{is_readable_by}
use Rattle.icu_decimal_reading.specs.DecimalOfText.{IsReading, PlainReading, decimal}
use Rattle.icu_decimal_reading.specs.PlainReading.{plain_reading}

-- what holds of the tables of every formatter: ten digits, each a character, and symbols that are texts
pub record AreTables (t : Tables) : Type 0 where
  pub ten : length t.digits ≡ 10
  pub digits : AllByRecursion IsScalar t.digits
  pub minus_prefix : IsUtf8 t.symbols.strings.minus_sign_prefix
  pub minus_suffix : IsUtf8 t.symbols.strings.minus_sign_suffix
  pub plus_prefix : IsUtf8 t.symbols.strings.plus_sign_prefix
  pub plus_suffix : IsUtf8 t.symbols.strings.plus_sign_suffix
  pub point : IsUtf8 t.symbols.strings.decimal_separator
  pub group : IsUtf8 t.symbols.strings.grouping_separator

-- the text of a decimal is UTF-8, whether the tables are readable or not
abbrev pub TextsAreUtf8 : Type 0
TextsAreUtf8 = (t : Tables) (v : SignedValue Number) → AreTables t → IsDecimal v → IsUtf8 (decimal_text t v)

-- under readable tables no two decimals share a text
abbrev pub TextsHaveOneDecimal : Type 0
TextsHaveOneDecimal = (t : Tables) (a b : SignedValue Number) → AreTables t → is_readable_by t ≡ true
    → IsDecimal a → IsDecimal b → decimal_text t a ≡ decimal_text t b → a ≡ b

-- each text has one reading, and the function answers it
abbrev pub HasOneReading : Type 0
HasOneReading = (t : Tables) (text : List ℕ) (reading : PlainReading) → AreTables t
    → IsReading t text reading ↔ (reading ≡ plain_reading t text)

-- a decimal that was written reads back, with its sign and the digits shown
abbrev pub WrittenReadsBack : Type 0
WrittenReadsBack = (t : Tables) (v : SignedValue Number) → AreTables t → is_readable_by t ≡ true → IsDecimal v
    → plain_reading t (decimal_text t v) ≡ decimal v

-- a text that was read, written again, is the same text
abbrev pub ReadIsWrittenAgain : Type 0
ReadIsWrittenAgain = (t : Tables) (text : List ℕ) (v : SignedValue Number) → plain_reading t text ≡ decimal v → decimal_text t v ≡ text

-- under `Auto` and under `Always` a text reads alike
abbrev pub AutoIsAlways : Type 0
AutoIsAlways = (t : Tables) (text : List ℕ) → plain_reading (record t { strategy = Auto }) text ≡ plain_reading (record t { strategy = Always }) text
