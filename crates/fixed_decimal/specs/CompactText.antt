-- Which text spells which compact number: a decimal's text without `e` and `E`, then `c` and an exponent, or none.
-- Defined in docs/numbers.md, "Compact and scientific texts".
-- Cited by `try_from_str` of `CompactDecimal` and by its printed text.
use Rattle.std.specs.Prelude.{◌≡◌, ℕ, ◌<◌, ◌≤◌, ◌⊎◌, List, [], ◌∷◌, ◌++◌, map}
use Rattle.std.specs.Int.Digits.{digits_of}
use Rattle.fixed_decimal_signed.specs.Number.{Number, IsNumber}
use Rattle.fixed_decimal_signed.specs.NumberText.{AreDigits, spelled, digit_zero, character}
use Rattle.fixed_decimal.specs.PlainText.{compact_mark, HasNoMark}
use Rattle.fixed_decimal_signed.specs.SignedText.{ReadsSigned, ReadsLongSigned, IsBeyondSigned, IsNoSignedText, signed_text_of}
use Rattle.fixed_decimal_signed.specs.SignedValue.{SignedValue}

-- a number and the exponent that is shown beside it
pub record CompactValue : Type 0 where
  pub significand : SignedValue Number
  pub exponent : ℕ

-- an exponent after its mark; no digits, no exponent
abbrev pub after_compact_mark : List ℕ → List ℕ
after_compact_mark [] = []
after_compact_mark (d ∷ ds) = compact_mark ∷ (d ∷ ds)

-- digits that do not begin with a zero
abbrev pub StartsNoZero : List ℕ → Type 0
StartsNoZero [] = Unit {0}
StartsNoZero (d ∷ ds) = ¬ (d ≡ digit_zero)

-- the text is a front without a mark, and an exponent of these digits
pub record SpellsCompact (text front digits : List ℕ) : Type 0 where
  pub whole : text ≡ front ++ after_compact_mark digits
  pub plain : HasNoMark front
  pub are_digits : AreDigits digits
  pub first : StartsNoZero digits

-- the text spells the compact number; no digits are the exponent 0
pub record ReadsCompact (text : List ℕ) (v : CompactValue) : Type 0 where
  pub front : List ℕ
  pub digits : List ℕ
  pub spells : SpellsCompact text front digits
  pub significand : ReadsSigned front v.significand
  pub exponent : v.exponent ≡ spelled digits
  pub fits : v.exponent < 256

-- the front spells a number, and the digits an exponent above 255
pub record PassesExponent (front digits : List ℕ) : Type 0 where
  pub number : SignedValue Number
  pub reads : ReadsSigned front number
  pub above : 256 ≤ spelled digits

-- the text is of this form, and its number or its exponent is beyond the limits
pub record IsBeyondCompact (text : List ℕ) : Type 0 where
  pub front : List ℕ
  pub digits : List ℕ
  pub spells : SpellsCompact text front digits
  pub beyond : IsBeyondSigned front ⊎ PassesExponent front digits

-- the text is of this form, and its number has more digits than lie inline
pub record ReadsLongCompact (text : List ℕ) : Type 0 where
  pub front : List ℕ
  pub digits : List ℕ
  pub spells : SpellsCompact text front digits
  pub long : ReadsLongSigned front

-- no front of the text is a number's text
abbrev pub IsNoCompactText : List ℕ → Type 0
IsNoCompactText text = (front digits : List ℕ) → SpellsCompact text front digits → IsNoSignedText front

-- the printed text: the significand, and the exponent where it is not 0
abbrev pub compact_text_of : CompactValue → List ℕ
compact_text_of v = signed_text_of v.significand ++ after_compact_mark (map character (digits_of 10 v.exponent))

-- every value of the type
pub record IsCompact (v : CompactValue) : Type 0 where
  pub significand : IsNumber v.significand.absolute
  pub exponent : v.exponent < 256
