-- The reading of a text as a function of tables and text: its digits, as one number under each sign, written again and compared with the text.
-- Defined in docs/reading.md, "Reading"; a law of `laws.rt` says that it is the reading which `IsReading` of DecimalOfText.antt names.
-- Cited by `read_plain` and `read_readable`, and by what answers with it.
use Rattle.std.specs.Prelude.{ℕ, ◌+◌, ◌-◌, ◌*◌, ◌^◌, ◌==◌, nat_le, nat_lt, Bool, true, false, ◌&&◌, cond, List, [], ◌∷◌, ◌++◌, length, map, filter_map, is_some, Option, None, Some}
use Rattle.std.specs.Str.{bytes_eq, chars}
use Rattle.fixed_decimal.specs.Number.{Number}
use Rattle.fixed_decimal.specs.NumberText.{character, spelled}
use Rattle.fixed_decimal.specs.SignedValue.{SignedValue}
use Rattle.fixed_decimal.specs.declared.Sign.{Sign}
use Rattle.fixed_decimal.specs.declared.Sign.TheVariants.{None as NoSign, Negative, Positive}
use Rattle.icu_decimal_plain.specs.PlainText.{Tables, decimal_text}
use Rattle.icu_decimal_reading.specs.Readable.{digit_of, is_readable_by}
pub use Rattle.icu_decimal_reading.specs.DecimalOfText.{HasManyDigits, HasNoNumber, IsAnswered, IsPlainText, PlainReading, decimal, not_written, unreadable}

-- the separator is at the front of these characters, and a digit after it
abbrev pub begins_fraction : List ℕ → List ℕ → List ℕ → Bool
begins_fraction digits [] [] = false
begins_fraction digits [] (c ∷ cs) = is_some (digit_of digits c)
begins_fraction digits (p ∷ ps) [] = false
begins_fraction digits (p ∷ ps) (c ∷ cs) = p == c && begins_fraction digits ps cs

-- each digit among these characters, as `0` to `9`
abbrev pub digits_of_text : List ℕ → List ℕ → List ℕ
digits_of_text digits cs = map character (filter_map (digit_of digits) cs)

-- those up to the first one that a fraction follows, or all
abbrev pub whole_then : Option ℕ → Bool → List ℕ → List ℕ
whole_then None follows rest = rest
whole_then (Some d) true rest = character d ∷ []
whole_then (Some d) false rest = character d ∷ rest

abbrev pub whole_in : List ℕ → List ℕ → List ℕ → List ℕ
whole_in digits separator [] = []
whole_in digits separator (c ∷ cs) = whole_then (digit_of digits c) (begins_fraction digits separator cs) (whole_in digits separator cs)

-- those after it, or none
abbrev pub fraction_then : Option ℕ → Bool → List ℕ → List ℕ → List ℕ
fraction_then None follows all rest = rest
fraction_then (Some d) true all rest = all
fraction_then (Some d) false all rest = rest

abbrev pub fraction_in : List ℕ → List ℕ → List ℕ → List ℕ
fraction_in digits separator [] = []
fraction_in digits separator (c ∷ cs) =
    fraction_then (digit_of digits c) (begins_fraction digits separator cs) (digits_of_text digits cs) (fraction_in digits separator cs)

-- there is a digit before the point, and no more on either side of it than there are magnitudes
abbrev pub is_within : List ℕ → List ℕ → Bool
is_within whole fraction = nat_lt 0 (length whole) && (nat_le (length whole) 32768 && nat_le (length fraction) 32768)

-- the number of these digits before and after the point
abbrev pub number_with : List ℕ → List ℕ → Number
number_with whole fraction = record {
  count = spelled (whole ++ fraction) * 10 ^ (32768 - length fraction);
  low = 32768 - length fraction;
  high = 32767 + length whole;
}

abbrev pub with_sign : Sign → Number → SignedValue Number
with_sign sign number = record { sign = sign; absolute = number }

-- whether this is the plain text of the decimal
abbrev pub is_text_of : Tables → List ℕ → SignedValue Number → Bool
is_text_of t text v = bytes_eq (decimal_text t v) text

-- the number with the sign under which this is its text
abbrev pub signed_reading : Tables → List ℕ → Number → PlainReading
signed_reading t text n =
    cond (is_text_of t text (with_sign NoSign n)) (decimal (with_sign NoSign n))
    (cond (is_text_of t text (with_sign Negative n)) (decimal (with_sign Negative n))
    (cond (is_text_of t text (with_sign Positive n)) (decimal (with_sign Positive n)) not_written))

-- the reading by the digits before and after the point
abbrev pub reading_with : Tables → List ℕ → List ℕ → List ℕ → PlainReading
reading_with t text whole fraction = cond (is_within whole fraction) (signed_reading t text (number_with whole fraction)) not_written

abbrev pub written_reading : Tables → List ℕ → PlainReading
written_reading t text =
    let separator = chars t.symbols.strings.decimal_separator in
    reading_with t text (whole_in t.digits separator (chars text)) (fraction_in t.digits separator (chars text))

abbrev pub plain_reading : Tables → List ℕ → PlainReading
plain_reading t text = cond (is_readable_by t) (written_reading t text) unreadable
