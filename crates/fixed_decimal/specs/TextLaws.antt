-- Laws that join texts and decimals, whole numbers, compact and scientific numbers.
-- Defined in docs/numbers.md, "Laws".
-- Cited by the functions of the module `laws`, and by `try_clone` of `FixedInteger`.
use Rattle.std.specs.Prelude.{◌≡◌, ℕ, Bool, List}
use Rattle.std.specs.Bool.{Decides}
use Rattle.fixed_decimal_signed.specs.Number.{Number, IsNumber}
use Rattle.fixed_decimal.specs.CompactText.{IsCompact, ReadsCompact, IsBeyondCompact, compact_text_of}
use Rattle.fixed_decimal.specs.IntegerText.{ShowsNoFraction, ReadsInteger, IsBeyondInteger}
use Rattle.fixed_decimal.specs.ScientificText.{ScientificValue, IsScientific, ReadsScientific, scientific_text_of}
use Rattle.fixed_decimal_signed.specs.SignedEquality.{are_equal_decimals}
use Rattle.fixed_decimal.specs.ExponentEquality.{are_equal_compact, are_equal_scientific}
use Rattle.fixed_decimal_signed.specs.SignedText.{ReadsSigned, IsBeyondSigned, signed_text_of}
use Rattle.fixed_decimal_signed.specs.SignedValue.{SignedValue}

-- a text has one reading, or one error
pub record HasOneReading {V : Type 0} (Reading : V → Type 0) (Beyond : Type 0) : Type 0 where
  pub value : (a b : V) → Reading a → Reading b → a ≡ b
  pub limit : (a : V) → Reading a → ¬ Beyond

-- the printed text of each value reads back as that value, and values with one printed text are one
pub record ReadsBack {V : Type 0} (IsValue : V → Type 0) (reads : List ℕ → V → Type 0) (printed : V → List ℕ) : Type 0 where
  pub back : (v : V) → IsValue v → reads (printed v) v
  pub equal : (a b : V) → IsValue a → IsValue b → printed a ≡ printed b → a ≡ b

-- every decimal
abbrev pub IsDecimal : SignedValue Number → Type 0
IsDecimal v = IsNumber v.absolute

-- every whole number
pub record IsWholeNumber (v : SignedValue Number) : Type 0 where
  pub decimal : IsDecimal v
  pub whole : ShowsNoFraction v

abbrev pub DecimalTextsReadOnce : Type 0
DecimalTextsReadOnce = (text : List ℕ) → HasOneReading (ReadsSigned text) (IsBeyondSigned text)

abbrev pub IntegerTextsReadOnce : Type 0
IntegerTextsReadOnce = (text : List ℕ) → HasOneReading (ReadsInteger text) (IsBeyondInteger text)

abbrev pub CompactTextsReadOnce : Type 0
CompactTextsReadOnce = (text : List ℕ) → HasOneReading (ReadsCompact text) (IsBeyondCompact text)

abbrev pub ScientificTextsReadOnce : Type 0
ScientificTextsReadOnce = (text : List ℕ) (a b : ScientificValue) → ReadsScientific text a → ReadsScientific text b → a ≡ b

abbrev pub PrintedDecimalsReadBack : Type 0
PrintedDecimalsReadBack = ReadsBack IsDecimal ReadsSigned signed_text_of

abbrev pub PrintedIntegersReadBack : Type 0
PrintedIntegersReadBack = ReadsBack IsWholeNumber ReadsInteger signed_text_of

abbrev pub PrintedCompactsReadBack : Type 0
PrintedCompactsReadBack = ReadsBack IsCompact ReadsCompact compact_text_of

abbrev pub PrintedScientificsReadBack : Type 0
PrintedScientificsReadBack = ReadsBack IsScientific ReadsScientific scientific_text_of

-- `==` is true exactly of equal values, and exactly of equal printed texts
pub record IsEqualityOfTexts {V : Type 0} (equal : V → V → Bool) (IsValue : V → Type 0) (printed : V → List ℕ) : Type 0 where
  pub values : (a b : V) → Decides (equal a b) (a ≡ b)
  pub texts : (a b : V) → IsValue a → IsValue b → Decides (equal a b) (printed a ≡ printed b)

abbrev pub DecimalEqualityIsThatOfTexts : Type 0
DecimalEqualityIsThatOfTexts = IsEqualityOfTexts are_equal_decimals IsDecimal signed_text_of

abbrev pub CompactEqualityIsThatOfTexts : Type 0
CompactEqualityIsThatOfTexts = IsEqualityOfTexts are_equal_compact IsCompact compact_text_of

abbrev pub ScientificEqualityIsThatOfTexts : Type 0
ScientificEqualityIsThatOfTexts = IsEqualityOfTexts are_equal_scientific IsScientific scientific_text_of
