-- What a text is read as in a notation, as a function of it: between the affixes of each sign a significand, the first place of the text before exponents, and an exponent.
-- Defined in docs/scientific-text.md, "Reading"; a law of `laws.rt` says that it is the reading which NotationReading.antt names.
-- Cited by `read_decimal` and `read_readable_decimal` of `ScientificTables`, and by what answers with it.
use Rattle.std.specs.Prelude.{ℕ, zero, suc, ℤ, pos, negsuc, ◌+◌, ◌-◌, ◌/◌, ◌%◌, ◌^◌, ◌==◌, nat_le, nat_lt, Bool, ◌&&◌, cond, List, [], ◌∷◌, drop, length, take, Option, Some, None, option_and_then}
use Rattle.std.specs.Option.{option_or}
use Rattle.std.specs.Str.{bytes_eq}
use Rattle.fixed_decimal.specs.Number.{Number}
use Rattle.fixed_decimal.specs.ScientificText.{ScientificValue}
use Rattle.fixed_decimal.specs.Shifts.{fall, rise}
use Rattle.fixed_decimal.specs.SignedEquality.{are_equal_decimals}
use Rattle.fixed_decimal.specs.SignedValue.{SignedValue}
use Rattle.fixed_decimal.specs.WholeNumbers.{size_of}
use Rattle.fixed_decimal.specs.declared.Sign.{Sign}
use Rattle.fixed_decimal.specs.declared.Sign.TheVariants.{None as NoSign, Negative, Positive}
use Rattle.icu_decimal_plain.specs.Affixes.{affixes_of}
use Rattle.icu_decimal_plain.specs.PlainText.{prefix_text, suffix_text}
use Rattle.icu_decimal_reading.specs.PlainReading.{PlainReading, decimal, not_written, plain_reading, unreadable}
use Rattle.icu_decimal_scientific.specs.ExponentialText.{ScientificSettings}
use Rattle.icu_decimal_scientific.specs.Product.{decimal_of, is_product}
use Rattle.icu_decimal_scientific.specs.Scientific.{ScientificParts, step}
use Rattle.icu_decimal_scientific.specs.ScientificReading.{is_scientific_readable_by}
use Rattle.icu_decimal_scientific.specs.ShownNumbers.{shown_exponent}
use Rattle.icu_decimal_scientific.specs.declared.notation.ScientificNotation.{ScientificNotation}
use Rattle.icu_decimal_scientific.specs.declared.shown.ExponentOptions.{ExponentOptions}

-- ---- cutting a text

-- what is after a prefix
abbrev pub after_prefix : List ℕ → List ℕ → Option (List ℕ)
after_prefix [] text = Some text
after_prefix (p ∷ ps) [] = None
after_prefix (p ∷ ps) (c ∷ cs) = cond (p == c) (after_prefix ps cs) None

-- what is before a suffix
abbrev pub before_suffix : List ℕ → List ℕ → Option (List ℕ)
before_suffix suffix text =
    let front = length text - length suffix in cond (bytes_eq (drop front text) suffix) (Some (take front text)) None

-- what is between the affixes of a sign
abbrev pub inner_of : ScientificSettings → Sign → List ℕ → Option (List ℕ)
inner_of s sign text =
    let affixes = affixes_of s.tables.symbols.strings sign in
    option_and_then (before_suffix (suffix_text affixes)) (after_prefix (prefix_text affixes) text)

-- the texts before and after a separator
pub record Sides : Type 0 where
  pub front : List ℕ
  pub back : List ℕ

-- here, or further on
abbrev pub sides_at : ℕ → Option (List ℕ) → Option Sides → Option Sides
sides_at c (Some back) later = Some (record { front = []; back = back })
sides_at c None (Some later) = Some (record { front = c ∷ later.front; back = later.back })
sides_at c None None = None

-- those of its first place
abbrev pub sides_of : List ℕ → List ℕ → Option Sides
sides_of separator [] = None
sides_of separator (c ∷ cs) = sides_at c (after_prefix separator (c ∷ cs)) (sides_of separator cs)

-- ---- the significand and the exponent

-- a number without a sign
abbrev pub if_unsigned : Sign → Number → Option Number
if_unsigned NoSign n = Some n
if_unsigned Negative n = None
if_unsigned Positive n = None

abbrev pub unsigned_in : PlainReading → Option Number
unsigned_in unreadable = None
unsigned_in not_written = None
unsigned_in (decimal v) = if_unsigned v.sign v.absolute

-- a whole number
abbrev pub integer_in : PlainReading → Option (SignedValue Number)
integer_in unreadable = None
integer_in not_written = None
integer_in (decimal v) = cond (v.absolute.low == 32768) (Some v) None

-- both are there, and the significand has this sign
abbrev pub value_of : Sign → Option Number → Option (SignedValue Number) → Option ScientificValue
value_of sign (Some n) (Some exponent) =
    Some (record { significand = record { sign = sign; absolute = n }; exponent = exponent })
value_of sign (Some n) None = None
value_of sign None exponent = None

-- those of two sides
abbrev pub value_at : ScientificSettings → Sign → Sides → Option ScientificValue
value_at s sign sides =
    value_of sign (unsigned_in (plain_reading s.tables sides.front)) (integer_in (plain_reading s.exponents sides.back))

-- between the affixes of a sign
abbrev pub signed_value : ScientificSettings → Sign → List ℕ → Option ScientificValue
signed_value s sign text = option_and_then (value_at s sign) (option_and_then (sides_of s.separator) (inner_of s sign text))

-- of one of the signs
abbrev pub scientific_value : ScientificSettings → List ℕ → Option ScientificValue
scientific_value s text =
    option_or (signed_value s NoSign text) (option_or (signed_value s Negative text) (signed_value s Positive text))

-- ---- in a notation

-- the exponent of a sign and a size
abbrev pub signed_size : Sign → ℕ → ℤ
signed_size NoSign size = pos size
signed_size Positive size = pos size
signed_size Negative zero = pos 0
signed_size Negative (suc less) = negsuc less

-- the form whose exponent this whole number is
abbrev pub form_in : ScientificValue → ScientificParts
form_in v = record {
  significand = v.significand;
  exponent = signed_size v.exponent.sign (v.exponent.absolute.count / 10 ^ 32768);
}

-- zero has the exponent 0; any other significand is at least one and below ten to the step of the notation, of which the exponent is a multiple
abbrev pub is_normal : ScientificNotation → ℕ → ℤ → Bool
is_normal notation count exponent =
    cond (count == 0) (size_of exponent == 0)
    ((rise exponent + fall exponent) % step notation == 0 && (nat_le (10 ^ 32768) count && nat_lt count (10 ^ (32768 + step notation))))

-- the exponent is shown as the options say, and the form is normal and a decimal
abbrev pub is_form_shown : ScientificNotation → ExponentOptions → SignedValue Number → ScientificParts → Bool
is_form_shown notation o exponent form =
    are_equal_decimals exponent (shown_exponent o form.exponent)
    && (is_normal notation form.significand.absolute.count form.exponent && is_product form.exponent form.significand.absolute)

-- the decimal of a number that is shown so
abbrev pub reading_of : ScientificNotation → ExponentOptions → Option ScientificValue → PlainReading
reading_of notation o None = not_written
reading_of notation o (Some v) = cond (is_form_shown notation o v.exponent (form_in v)) (decimal (decimal_of (form_in v))) not_written

-- of tables that are readable
abbrev pub scientific_reading : ScientificSettings → ScientificNotation → ExponentOptions → List ℕ → PlainReading
scientific_reading s notation o text = cond (is_scientific_readable_by s) (reading_of notation o (scientific_value s text)) unreadable
