-- What texts with a unit are put with: tables, the affixes of each sign with the unit in its place, and how many fraction digits are shown.
-- Defined in docs/plain-text.md, "Of a text", and docs/units.md, "The text".
-- Cited by the calls of `UnitTextTables`.
use Rattle.std.specs.Prelude.{ℕ, ◌-◌, ◌≤◌, min, List, ◌++◌, length}
use Rattle.fixed_decimal.specs.Number.{Number}
use Rattle.fixed_decimal.specs.SignedValue.{SignedValue}
use Rattle.fixed_decimal.specs.declared.Sign.{Sign}
use Rattle.fixed_decimal.specs.declared.Sign.TheVariants.{None as NoSign, Negative, Positive}
use Rattle.icu_decimal_plain.specs.PlainText.{Tables, unsigned_text}
use Rattle.icu_decimal_direct.specs.Short.{AreFewShown}

-- a text for a number without a sign, and one for each sign
pub record SignTexts : Type 0 where
  pub none : List ℕ
  pub minus : List ℕ
  pub plus : List ℕ

abbrev pub text_for : SignTexts → Sign → List ℕ
text_for texts NoSign = texts.none
text_for texts Negative = texts.minus
text_for texts Positive = texts.plus

-- what is before the number and after it, and how many fraction digits there are at least and at most
pub record UnitTexts : Type 0 where
  pub tables : Tables
  pub before : SignTexts
  pub after : SignTexts
  pub least : ℕ
  pub most : ℕ

-- a number that shows no more fraction digits
abbrev pub IsShownBy : UnitTexts → SignedValue Number → Type 0
IsShownBy u d = 32768 - u.most ≤ d.absolute.low

-- the number, shown down to the last of so many fraction digits at least
abbrev pub shown_down : ℕ → SignedValue Number → SignedValue Number
shown_down least d = record { sign = d.sign; absolute = record d.absolute { low = min d.absolute.low (32768 - least) } }

-- it between the affixes of its sign
abbrev pub text_between : UnitTexts → SignedValue Number → List ℕ
text_between u d = text_for u.before d.sign ++ (unsigned_text u.tables d.absolute ++ text_for u.after d.sign)

abbrev pub unit_text : UnitTexts → SignedValue Number → List ℕ
unit_text u d = text_between u (shown_down u.least d)

-- each of at most 32 bytes
pub record AreShort (texts : SignTexts) : Type 0 where
  pub none : length texts.none ≤ 32
  pub minus : length texts.minus ≤ 32
  pub plus : length texts.plus ≤ 32

-- affixes that texts can be put with, and counts
pub record CanPutUnits (before after : SignTexts) (least most : ℕ) : Type 0 where
  pub short_before : AreShort before
  pub short_after : AreShort after
  pub counts : AreFewShown least most
