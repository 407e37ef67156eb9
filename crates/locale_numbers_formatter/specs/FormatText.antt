-- The text of a number of any format, by layers: what is shown for it, its digits, and what is around them.
-- Defined in docs/plain-text.md, "Layers"; laws of `laws.rt` say that it is the plain, the compact and the unit text of `icu_decimal` and `icu_dimension`, and the scientific one of `icu_decimal_scientific`.
-- Cited by the calls of `NumberFormatter`, and by the laws.
use Rattle.std.specs.Prelude.{◌≡◌, ◌⊎◌, ℕ, ℤ, List, ◌++◌, Option, None, Some}
use Rattle.fixed_decimal.specs.CompactText.{CompactValue, compact_text_of}
use Rattle.fixed_decimal.specs.Number.{Number}
use Rattle.fixed_decimal.specs.Range.{IsLong}
use Rattle.fixed_decimal.specs.ScientificText.{ScientificValue, scientific_text_of}
use Rattle.fixed_decimal.specs.SignedValue.{SignedValue}
use Rattle.fixed_decimal.specs.declared.Sign.{Sign}
use Rattle.icu_decimal.specs.Affixes.{affixes_of}
use Rattle.icu_decimal.specs.CompactTables.{CompactTables}
use Rattle.icu_decimal.specs.CompactText.{compact_of, pattern_of}
use Rattle.icu_decimal.specs.Operands.{operands_of}
use Rattle.icu_decimal.specs.Pattern.{PatternText}
use Rattle.icu_decimal.specs.PlainText.{Tables, decimal_text, prefix_text, suffix_text, unsigned_text}
use Rattle.icu_decimal.specs.ShownChoice.{CanShow, exponent_of}
use Rattle.icu_decimal_scientific.specs.ExponentialText.{ScientificSettings}
use Rattle.icu_decimal_scientific.specs.FormOf.{below_form, shown_form}
use Rattle.icu_decimal_scientific.specs.Scientific.{ScientificParts}
use Rattle.icu_decimal_scientific.specs.ShownNumbers.{shown_exponent}
use Rattle.icu_dimension.specs.UnitPatterns.{AffixPair}
use Rattle.icu_dimension.specs.UnitText.{UnitSettings, sign_pair}
use Rattle.icu_dimension.specs.declared.FractionInfo.{FractionInfo}
use Rattle.locale_numbers_formats.specs.Changed.{changed}
use Rattle.locale_numbers_formats.specs.declared.options.NumberOptions.{NumberOptions}
use Rattle.locale_numbers_formats.specs.declared.shape.ScientificStyle.{ScientificStyle}
use Rattle.locale_numbers_formatter.specs.CompactDigits.{IsToMultiplesOf25, below_exponent, digits_shown}
use Rattle.locale_numbers_formatter.specs.Layers.{Layers, layered}

-- ---- formats

-- numbers with a unit: what they are written with, what people type for the unit, and the digits of the currency, where it is one
pub record UnitFormat : Type 0 where
  pub settings : UnitSettings
  pub code : List ℕ
  pub fractions : Option FractionInfo

-- numbers in scientific notation: what they are written with, which exponents there are and how they are shown, and what is made of a significand
pub record ScientificFormat : Type 0 where
  pub settings : ScientificSettings
  pub style : ScientificStyle
  pub options : NumberOptions

-- what numbers of a format are written with; compact ones with digits of their own have the options of these
pub data FormatTables : Type 0 where
  plain_tables : Tables → FormatTables
  compact_tables : CompactTables → FormatTables
  digits_tables : CompactTables → NumberOptions → FormatTables
  unit_tables : UnitFormat → FormatTables
  scientific_tables : ScientificFormat → FormatTables

-- what digits are written with
abbrev pub digit_tables : FormatTables → Tables
digit_tables (plain_tables t) = t
digit_tables (compact_tables t) = t.plain
digit_tables (digits_tables t o) = t.plain
digit_tables (unit_tables u) = u.settings.tables
digit_tables (scientific_tables s) = s.settings.tables

-- the digits of the currency, where the format has one
abbrev pub fractions_in : FormatTables → Option FractionInfo
fractions_in (plain_tables t) = None
fractions_in (compact_tables t) = None
fractions_in (digits_tables t o) = None
fractions_in (unit_tables u) = u.fractions
fractions_in (scientific_tables s) = None

-- its numbers have no unit, so no affixes are put together
abbrev pub HasNoUnit : FormatTables → Type 0
HasNoUnit (plain_tables t) = Unit {0}
HasNoUnit (compact_tables t) = Unit {0}
HasNoUnit (digits_tables t o) = Unit {0}
HasNoUnit (unit_tables u) = ⊥
HasNoUnit (scientific_tables s) = Unit {0}

-- ---- the layers

-- the affixes that the symbols have for a sign
abbrev pub symbol_pair : Tables → Sign → AffixPair
symbol_pair t sign =
    let affixes = affixes_of t.symbols.strings sign in record { before = prefix_text affixes; after = suffix_text affixes }

-- the pair of a sign: its affixes, with the unit where there is one
abbrev pub pair_in : FormatTables → Sign → AffixPair
pair_in (plain_tables t) sign = symbol_pair t sign
pair_in (compact_tables t) sign = symbol_pair t.plain sign
pair_in (digits_tables t o) sign = symbol_pair t.plain sign
pair_in (unit_tables u) sign = sign_pair u.settings sign
pair_in (scientific_tables s) sign = symbol_pair s.settings.tables sign

-- a compact pattern or none, and the pair around it
abbrev pub layers_in : FormatTables → Sign → Option PatternText → Layers
layers_in f sign pattern = let pair = pair_in f sign in record { inner = pattern; before = pair.before; after = pair.after; outer = None }

-- ---- what is shown

-- an exponent after the digits: the text before it, what it is written with, and its digits with their sign
pub record Power : Type 0 where
  pub separator : List ℕ
  pub tables : Tables
  pub exponent : SignedValue Number

-- a number as it is shown: its digits and its sign, the exponent that a pattern stands for, what the digits are written with, the exponent after them, and the layers
pub record Shown : Type 0 where
  pub significand : SignedValue Number
  pub exponent : ℕ
  pub tables : Tables
  pub power : Option Power
  pub layers : Layers

abbrev pub shown_in : FormatTables → SignedValue Number → ℕ → Option PatternText → Shown
shown_in f significand exponent pattern = record {
  significand = significand;
  exponent = exponent;
  tables = digit_tables f;
  power = None;
  layers = layers_in f significand.sign pattern;
}

abbrev pub shown_as_it_is : FormatTables → SignedValue Number → Shown
shown_as_it_is f d = shown_in f d 0 None

-- the significand, the exponent and the pattern of compact text
abbrev pub compact_shown : CompactTables → SignedValue Number → Shown
compact_shown t d =
    let c = compact_of t d.absolute in
    shown_in (compact_tables t) (record { sign = d.sign; absolute = c.plain.number }) c.exponent c.pattern

-- the significand that options leave, in a pattern of its entry, which is the one for the digits that are left
abbrev pub digits_in_pattern : CompactTables → NumberOptions → SignedValue Number → Shown
digits_in_pattern t o d =
    let shown = digits_shown t.patterns.entries o d in
    shown_in (digits_tables t o) shown.significand (exponent_of shown.entry) (pattern_of t shown.entry (operands_of shown.significand.absolute 0))

-- the significand that options leave of a form, carried where they reached a higher exponent, and the exponent
abbrev pub form_shown : ScientificFormat → SignedValue Number → ScientificParts
form_shown s d = shown_form (λ v. changed s.options None v) s.style.notation d

abbrev pub power_of : ScientificFormat → ℤ → Power
power_of s exponent = record { separator = s.settings.separator; tables = s.settings.exponents; exponent = shown_exponent s.style.exponents exponent }

abbrev pub form_with_power : ScientificFormat → ScientificParts → Shown
form_with_power s form = record {
  significand = form.significand;
  exponent = 0;
  tables = s.settings.tables;
  power = Some (power_of s form.exponent);
  layers = layers_in (scientific_tables s) form.significand.sign None;
}

abbrev pub scientific_shown : ScientificFormat → SignedValue Number → Shown
scientific_shown s d = form_with_power s (form_shown s d)

abbrev pub shown_by : FormatTables → SignedValue Number → Shown
shown_by (plain_tables t) d = shown_as_it_is (plain_tables t) d
shown_by (compact_tables t) d = compact_shown t d
shown_by (digits_tables t o) d = digits_in_pattern t o d
shown_by (unit_tables u) d = shown_as_it_is (unit_tables u) d
shown_by (scientific_tables s) d = scientific_shown s d

-- ---- the text

-- digits with an exponent after them, or with none
abbrev pub with_power : Option Power → List ℕ → List ℕ
with_power None digits = digits
with_power (Some p) digits = digits ++ (p.separator ++ decimal_text p.tables p.exponent)

abbrev pub text_of_shown : Shown → List ℕ
text_of_shown s = layered s.layers (with_power s.power (unsigned_text s.tables s.significand.absolute))

abbrev pub format_text : FormatTables → SignedValue Number → List ℕ
format_text f d = text_of_shown (shown_by f d)

-- ---- the value that a text shows

-- a number with the exponent of its pattern, or a scientific number
pub data ShownValue : Type 0 where
  compact_value : CompactValue → ShownValue
  scientific_value : ScientificValue → ShownValue

abbrev pub value_with : SignedValue Number → ℕ → Option Power → ShownValue
value_with significand exponent None = compact_value (record { significand = significand; exponent = exponent })
value_with significand exponent (Some p) = scientific_value (record { significand = significand; exponent = p.exponent })

abbrev pub value_of_shown : Shown → ShownValue
value_of_shown s = value_with s.significand s.exponent s.power

abbrev pub format_value : FormatTables → SignedValue Number → ShownValue
format_value f d = value_of_shown (shown_by f d)

-- as it is printed: 1.2c6 of a compact number, and 1.2e6 of a scientific one
abbrev pub shown_text : ShownValue → List ℕ
shown_text (compact_value v) = compact_text_of v
shown_text (scientific_value v) = scientific_text_of v

-- ---- what has a text, and memory

-- the number has a text: what a compact text shows may be no decimal; with digits of its own, and in scientific notation, none may be below the exponent
abbrev pub CanFormat : FormatTables → SignedValue Number → Type 0
CanFormat (plain_tables t) d = Unit {0}
CanFormat (compact_tables t) d = CanShow t.patterns.entries d.absolute.count
CanFormat (digits_tables t o) d = below_exponent t.patterns.entries d ≡ 0
CanFormat (unit_tables u) d = Unit {0}
CanFormat (scientific_tables s) d = below_form s.style.notation d.absolute.count ≡ 0

-- what is shown may be longer than the number: by a rounding of its own to multiples of 25
abbrev pub MayLengthen : FormatTables → Type 0
MayLengthen (plain_tables t) = ⊥
MayLengthen (compact_tables t) = ⊥
MayLengthen (digits_tables t o) = IsToMultiplesOf25 o.rounding
MayLengthen (unit_tables u) = ⊥
MayLengthen (scientific_tables s) = IsToMultiplesOf25 s.options.rounding

-- memory is asked for: of a compact or scientific number of more than sixteen digits, and where what is shown may be longer
abbrev pub FormatAllocates : FormatTables → SignedValue Number → Type 0
FormatAllocates (plain_tables t) d = ⊥
FormatAllocates (compact_tables t) d = IsLong d.absolute.count
FormatAllocates (digits_tables t o) d = IsLong d.absolute.count ⊎ MayLengthen (digits_tables t o)
FormatAllocates (unit_tables u) d = ⊥
FormatAllocates (scientific_tables s) d = IsLong d.absolute.count ⊎ MayLengthen (scientific_tables s)

-- of a number of more than sixteen digits that is shown, and of one that is shown so
abbrev pub IsLongOrShownSo : FormatTables → SignedValue Number → Type 0
IsLongOrShownSo f d = IsLong d.absolute.count ⊎ IsLong (shown_by f d).significand.absolute.count

abbrev pub ShowAllocates : FormatTables → SignedValue Number → Type 0
ShowAllocates (plain_tables t) d = IsLongOrShownSo (plain_tables t) d
ShowAllocates (compact_tables t) d = IsLongOrShownSo (compact_tables t) d
ShowAllocates (digits_tables t o) d = IsLong d.absolute.count ⊎ MayLengthen (digits_tables t o)
ShowAllocates (unit_tables u) d = IsLongOrShownSo (unit_tables u) d
ShowAllocates (scientific_tables s) d = IsLong d.absolute.count ⊎ MayLengthen (scientific_tables s)
