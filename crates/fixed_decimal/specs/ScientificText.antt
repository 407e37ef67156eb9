-- Which text spells which scientific number: a decimal's text, `e`, and a whole number's text.
-- Defined in docs/numbers.md, "Compact and scientific texts".
-- Cited by `try_from_str` and `try_from_utf8` of `ScientificDecimal`, and by its printed text.
use Rattle.std.specs.Prelude.{◌≡◌, ℕ, ◌⊎◌, List, ◌∷◌, ◌++◌}
use Rattle.fixed_decimal_signed.specs.Number.{Number, IsNumber}
use Rattle.fixed_decimal_signed.specs.NumberText.{small_mark}
use Rattle.fixed_decimal.specs.IntegerText.{ShowsNoFraction, ReadsInteger}
use Rattle.fixed_decimal.specs.PlainText.{HasNoMark}
use Rattle.fixed_decimal_signed.specs.SignedText.{ReadsSigned, ReadsLongSigned, signed_text_of}
use Rattle.fixed_decimal_signed.specs.SignedValue.{SignedValue}

-- a number, and the whole number that is shown as its exponent
pub record ScientificValue : Type 0 where
  pub significand : SignedValue Number
  pub exponent : SignedValue Number

-- the text is two sides without a mark, and `e` between them
pub record SpellsScientific (text left right : List ℕ) : Type 0 where
  pub whole : text ≡ left ++ small_mark ∷ right
  pub left_plain : HasNoMark left
  pub right_plain : HasNoMark right

-- the text spells the scientific number: both sides read
pub record ReadsScientific (text : List ℕ) (v : ScientificValue) : Type 0 where
  pub left : List ℕ
  pub right : List ℕ
  pub spells : SpellsScientific text left right
  pub significand : ReadsSigned left v.significand
  pub exponent : ReadsInteger right v.exponent

-- the text is of this form, and a side of it spells a number of more digits than lie inline
pub record ReadsLongScientific (text : List ℕ) : Type 0 where
  pub left : List ℕ
  pub right : List ℕ
  pub spells : SpellsScientific text left right
  pub long : ReadsLongSigned left ⊎ ReadsLongSigned right

-- the text has not exactly one mark, an `e`, or a side of it does not read; a side beyond the limits does not read
-- either
abbrev pub IsNoScientificText : List ℕ → Type 0
IsNoScientificText text = (v : ScientificValue) → ¬ (ReadsScientific text v)

-- the printed text: the significand, `e`, and the exponent
abbrev pub scientific_text_of : ScientificValue → List ℕ
scientific_text_of v = signed_text_of v.significand ++ small_mark ∷ signed_text_of v.exponent

-- every value of the type
pub record IsScientific (v : ScientificValue) : Type 0 where
  pub significand : IsNumber v.significand.absolute
  pub exponent : IsNumber v.exponent.absolute
  pub whole : ShowsNoFraction v.exponent
