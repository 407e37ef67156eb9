-- What a typed text is read as: as the exact reader reads it; else folded, with the folded symbols, without groups or with all of them: as it is, else trimmed, else with a zero before a point that no digit is before, and without a point that no digit is after.
-- Defined in docs/reading.md, "Lenient reading".
-- Cited by `read_lenient`, `is_leniently_readable`, `LenientTables`, `is_own_text`, `unless_other`, and by the laws of lenient reading.
use Rattle.std.specs.Prelude.{◌≡◌, ◌⊎◌, ℕ, Bool, true, false, ◌&&◌, ◌||◌, ◌==◌, cond, List, [], ◌∷◌, is_some, is_none}
use Rattle.std.specs.List.{list_all}
use Rattle.std.specs.Str.{chars, encode_utf8_all, trim}
use Rattle.fixed_decimal.specs.Number.{Number}
use Rattle.fixed_decimal.specs.SignedEquality.{are_equal_decimals}
use Rattle.fixed_decimal.specs.SignedValue.{SignedValue}
use Rattle.icu_decimal_symbols.specs.declared.options.GroupingStrategy.{GroupingStrategy}
use Rattle.icu_decimal_symbols.specs.declared.options.GroupingStrategy.TheVariants.{Never, Always, Min2, OnAligned}
use Rattle.icu_decimal_symbols.specs.Symbols.{Symbols}
use Rattle.icu_decimal_plain.specs.PlainText.{Tables}
use Rattle.icu_decimal_reading.specs.DecimalOfText.{HasManyDigits, IsPlainText, PlainReading, decimal, not_written, unreadable}
use Rattle.icu_decimal_reading.specs.PlainReading.{begins_fraction, is_text_of, plain_reading}
use Rattle.icu_decimal_reading.specs.Readable.{digit_of, is_readable_by}
use Rattle.icu_decimal_lenient.specs.Folding.{folded_symbols, folded_text, plain_digits}

-- ---- filled

-- a zero before a decimal separator that is before all digits, and directly before one
abbrev pub with_zero : List ℕ → List ℕ → List ℕ
with_zero separator [] = []
with_zero separator (c ∷ cs) =
    cond (is_some (digit_of plain_digits c)) (c ∷ cs)
    (cond (begins_fraction plain_digits separator (c ∷ cs)) (48 ∷ c ∷ cs) (c ∷ with_zero separator cs))

-- these characters without the separator at their front
abbrev pub past_separator : List ℕ → List ℕ → List ℕ → List ℕ
past_separator all [] cs = cs
past_separator all (p ∷ ps) [] = all
past_separator all (p ∷ ps) (c ∷ cs) = cond (p == c) (past_separator all ps cs) all

-- no separator directly after the last digit, where there is no fraction
abbrev pub without_point : List ℕ → List ℕ → List ℕ
without_point separator [] = []
without_point separator (c ∷ cs) =
    cond (is_some (digit_of plain_digits c) && begins_fraction plain_digits separator cs) (c ∷ cs)
    (cond (is_some (digit_of plain_digits c) && list_all (λ d. is_none (digit_of plain_digits d)) cs) (c ∷ past_separator cs separator cs)
    (c ∷ without_point separator cs))

-- both
abbrev pub filled : List ℕ → List ℕ → List ℕ
filled separator cs = without_point separator (with_zero separator cs)

abbrev pub filled_text : List ℕ → List ℕ → List ℕ
filled_text separator text = encode_utf8_all (filled (chars separator) (chars text))

-- ---- what a text is

-- folded symbols with the digits of ASCII
abbrev pub with_folded : GroupingStrategy → Symbols → Tables
with_folded strategy folded = record { symbols = folded; digits = plain_digits; strategy = strategy }

-- this is the text of the decimal with folded symbols, without groups or with all of them
abbrev pub IsGroupedText : Symbols → List ℕ → SignedValue Number → Type 0
IsGroupedText folded text v = IsPlainText (with_folded Never folded) text v ⊎ IsPlainText (with_folded Always folded) text v

-- a text, folded and trimmed, and this filled
abbrev pub trimmed_fold : Tables → List ℕ → List ℕ
trimmed_fold t text = trim (folded_text t.digits text)

abbrev pub filled_fold : Tables → List ℕ → List ℕ
filled_fold t text = filled_text (folded_symbols t).strings.decimal_separator (trimmed_fold t text)

-- a typed text is one of the decimal: the formatter's own, or folded, or folded and trimmed, or this filled
abbrev pub IsTypedText : Tables → List ℕ → SignedValue Number → Type 0
IsTypedText t text v =
    IsPlainText t text v
    ⊎ (IsGroupedText (folded_symbols t) (folded_text t.digits text) v
    ⊎ (IsGroupedText (folded_symbols t) (trimmed_fold t text) v ⊎ IsGroupedText (folded_symbols t) (filled_fold t text) v))

-- it is one of no decimal
abbrev pub HasNoTyped : Tables → List ℕ → Type 0
HasNoTyped t text = (v : SignedValue Number) → ¬ (IsTypedText t text v)

-- ---- read

-- the first reading, or the second one where no number is written so
abbrev pub or_else : PlainReading → PlainReading → PlainReading
or_else unreadable other = unreadable
or_else not_written other = other
or_else (decimal v) other = decimal v

-- a folded text, without groups or with all of them
abbrev pub read_either : Symbols → List ℕ → PlainReading
read_either folded text = or_else (plain_reading (with_folded Never folded) text) (plain_reading (with_folded Always folded) text)

-- a folded text trimmed, or trimmed and filled
abbrev pub read_trimmed : Symbols → List ℕ → PlainReading
read_trimmed folded text =
    or_else (read_either folded (trim text)) (read_either folded (filled_text folded.strings.decimal_separator (trim text)))

-- as it is, trimmed, or trimmed and filled
abbrev pub read_folded : Symbols → List ℕ → PlainReading
read_folded folded text = or_else (read_either folded text) (read_trimmed folded text)

-- the symbols are readable, and so they are once they are folded
abbrev pub is_leniently_readable_by : Tables → Bool
is_leniently_readable_by t = is_readable_by t && is_readable_by (with_folded Never (folded_symbols t))

-- a text that is not the formatter's own
abbrev pub folded_reading : Tables → List ℕ → PlainReading
folded_reading t text = cond (is_leniently_readable_by t) (read_folded (folded_symbols t) (folded_text t.digits text)) unreadable

-- any text
abbrev pub lenient_reading : Tables → List ℕ → PlainReading
lenient_reading t text = or_else (plain_reading t text) (folded_reading t text)

-- ---- with second tables

-- the same tables under another grouping
abbrev pub under : GroupingStrategy → Tables → Tables
under strategy t = record t { strategy = strategy }

-- the text is what the formatter writes of the decimal, under any grouping: `Auto` writes it as `Always` does
abbrev pub is_own_text : Tables → List ℕ → SignedValue Number → Bool
is_own_text t text v =
    is_text_of (under Never t) text v
    || (is_text_of (under Always t) text v || (is_text_of (under Min2 t) text v || is_text_of (under OnAligned t) text v))

-- a decimal, where a second reading is no other one
abbrev pub unless_other : SignedValue Number → PlainReading → PlainReading
unless_other v unreadable = decimal v
unless_other v not_written = decimal v
unless_other v (decimal w) = cond (are_equal_decimals v w) (decimal v) not_written

-- the first reading, where the text is its decimal's own or the second reading is no other decimal; the second one, where no number is written so by the first
abbrev pub agreed : (SignedValue Number → Bool) → PlainReading → PlainReading → PlainReading
agreed is_own unreadable other = unreadable
agreed is_own not_written other = other
agreed is_own (decimal v) other = cond (is_own v) (decimal v) (unless_other v other)

-- any text, by the first tables and by the second ones
abbrev pub reading_by_both : Tables → Tables → List ℕ → PlainReading
reading_by_both t other text = agreed (λ v. is_own_text t text v) (lenient_reading t text) (lenient_reading other text)

-- the first tables read a decimal that they do not write so, and the second ones another one
pub record IsAmbiguous (t other : Tables) (text : List ℕ) : Type 0 where
  pub one : SignedValue Number
  pub two : SignedValue Number
  pub first : lenient_reading t text ≡ decimal one
  pub second : lenient_reading other text ≡ decimal two
  pub typed : is_own_text t text one ≡ false
  pub differ : are_equal_decimals one two ≡ false

-- it is a text of no decimal by either tables
abbrev pub HasNeither : Tables → Tables → List ℕ → Type 0
HasNeither t other text = HasNoTyped t text × HasNoTyped other text

-- what is kept to read leniently with: the symbols are readable, and those kept are the folded ones
pub record AreKept (t : Tables) (folded : Symbols) : Type 0 where
  pub readable : is_leniently_readable_by t ≡ true
  pub folds : folded ≡ folded_symbols t

-- ---- errors

-- the symbols do not tell what this text is: they are not readable, or it is not the formatter's own and they are not readable once they are folded
abbrev pub IsUnreadable : Tables → List ℕ → Type 0
IsUnreadable t text = (is_readable_by t ≡ false) ⊎ ((is_leniently_readable_by t ≡ false) × (plain_reading t text ≡ not_written))

-- memory is asked for where the text shows more than sixteen digits, or is folded
abbrev pub MayAllocate : Tables → List ℕ → Type 0
MayAllocate t text = HasManyDigits t text ⊎ ((is_leniently_readable_by t ≡ true) × (plain_reading t text ≡ not_written))
