-- What a text is read as in a format: the number that is written so between the affixes of its sign, or, in scientific notation, the decimal that the significand and the exponent are; a compact text tells no number.
-- Defined in docs/reading.md, "Reading", docs/units.md, "Reading", and docs/scientific-text.md, "Reading"; a law of `laws.rt` says that plain texts are read so.
-- Cited by the calls of `NumberReader`, and by the laws.
use Rattle.std.specs.Prelude.{ℕ, Bool, true, false, List, [], Option, None, Some}
use Rattle.fixed_decimal.specs.Number.{Number}
use Rattle.fixed_decimal.specs.SignedValue.{SignedValue}
use Rattle.fixed_decimal.specs.declared.Sign.TheVariants.{None as NoSign, Negative, Positive}
use Rattle.icu_decimal.specs.PlainReading.{PlainReading, unreadable}
use Rattle.icu_decimal_scientific.specs.ExponentialText.{ScientificSettings}
use Rattle.icu_decimal_scientific.specs.ScientificReading.{HasManyBeside}
use Rattle.icu_decimal_scientific.specs.ScientificReadings.{scientific_reading}
use Rattle.icu_dimension.specs.UnitReading.{HasManyBetween, ReaderTexts, text_by}
use Rattle.icu_dimension_lenient.specs.UnitReadings.{unit_reading}
use Rattle.locale_numbers_formats.specs.declared.shape.ScientificStyle.{ScientificStyle}
use Rattle.locale_numbers_formatter.specs.FormatText.{FormatTables, ScientificFormat, compact_tables, digit_tables, digits_tables, pair_in, plain_tables, scientific_tables, unit_tables}

-- ---- what texts are read with

-- scientific ones: what they are written with, which exponents there are, and how these are shown
pub record NotationTexts : Type 0 where
  pub settings : ScientificSettings
  pub style : ScientificStyle

-- the others: the pair of each sign, and what is between them
pub data FormatReader : Type 0 where
  reads_between : ReaderTexts → FormatReader
  reads_notation : NotationTexts → FormatReader

abbrev pub pairs_reader : FormatTables → ReaderTexts
pairs_reader f = record {
  tables = digit_tables f;
  pairs = record { none = pair_in f NoSign; minus = pair_in f Negative; plus = pair_in f Positive };
}

abbrev pub notation_texts : ScientificFormat → NotationTexts
notation_texts s = record { settings = s.settings; style = s.style }

abbrev pub reader_of : FormatTables → Option FormatReader
reader_of (plain_tables t) = Some (reads_between (pairs_reader (plain_tables t)))
reader_of (compact_tables t) = None
reader_of (digits_tables t o) = None
reader_of (unit_tables u) = Some (reads_between (pairs_reader (unit_tables u)))
reader_of (scientific_tables s) = Some (reads_notation (notation_texts s))

-- ---- what is written by a reader

-- numbers are written too, between affixes that are put together once
abbrev pub is_joined : Option FormatReader → Bool
is_joined None = false
is_joined (Some (reads_between r)) = true
is_joined (Some (reads_notation n)) = false

abbrev pub text_by_reader : Option FormatReader → SignedValue Number → List ℕ
text_by_reader None v = []
text_by_reader (Some (reads_between r)) v = text_by r v
text_by_reader (Some (reads_notation n)) v = []

-- ---- the reading

-- zeros of the significand are read as they are, whatever digits the format shows
abbrev pub notation_reading : NotationTexts → List ℕ → PlainReading
notation_reading n text = scientific_reading n.settings n.style.notation n.style.exponents text

abbrev pub reading_by_reader : Option FormatReader → List ℕ → PlainReading
reading_by_reader None text = unreadable
reading_by_reader (Some (reads_between r)) text = unit_reading r text
reading_by_reader (Some (reads_notation n)) text = notation_reading n text

abbrev pub format_reading : FormatTables → List ℕ → PlainReading
format_reading f text = reading_by_reader (reader_of f) text

-- memory is asked for where more than sixteen digits are between the affixes of a sign, or on a side of the text before exponents
abbrev pub ReaderAllocates : Option FormatReader → List ℕ → Type 0
ReaderAllocates None text = ⊥
ReaderAllocates (Some (reads_between r)) text = HasManyBetween r text
ReaderAllocates (Some (reads_notation n)) text = HasManyBeside n.settings text
