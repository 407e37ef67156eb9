-- What a text is read as: the decimal that is written so with its unit, or that none is.
-- Defined in docs/units.md, "Reading".
-- Cited by the calls of `UnitReader`, and by the laws of reading.
use Rattle.std.specs.Prelude.{◌≡◌, ◌≢◌, ℕ, Bool, true, false, not, ◌&&◌, List}
use Rattle.std.specs.Str.{IsUtf8}
use Rattle.fixed_decimal.specs.Number.{IsNumber, Number}
use Rattle.fixed_decimal.specs.SignedValue.{SignedValue}
use Rattle.fixed_decimal.specs.TextLaws.{IsDecimal}
use Rattle.fixed_decimal.specs.declared.Sign.{Sign}
use Rattle.fixed_decimal.specs.declared.Sign.TheVariants.{None as NoSign, Negative, Positive}
use Rattle.icu_decimal_plain.specs.PlainText.{Tables, unsigned_text}
use Rattle.icu_decimal_reading.specs.DecimalOfText.{HasManyDigits, PlainReading, decimal, not_written, unreadable}
use Rattle.icu_decimal_reading.specs.Readable.{has_no_digit, is_readable_by, is_same_pair}
use Rattle.icu_decimal_reading.specs.ReadingLaws.{AreTables}
use Rattle.icu_dimension_affixes.specs.UnitPatterns.{AffixPair}
use Rattle.icu_dimension_affixes.specs.UnitText.{UnitSettings, sign_pair, text_between}

-- the affixes of each sign, with the unit in its place
pub record SignPairs : Type 0 where
  pub none : AffixPair
  pub minus : AffixPair
  pub plus : AffixPair

abbrev pub pair_for : SignPairs → Sign → AffixPair
pair_for pairs NoSign = pairs.none
pair_for pairs Negative = pairs.minus
pair_for pairs Positive = pairs.plus

-- what texts are read with
pub record ReaderTexts : Type 0 where
  pub tables : Tables
  pub pairs : SignPairs

abbrev pub reader_texts : UnitSettings → ReaderTexts
reader_texts s = record {
  tables = s.tables;
  pairs = record { none = sign_pair s NoSign; minus = sign_pair s Negative; plus = sign_pair s Positive };
}

-- the text of a decimal: `unit_decimal_text`, by a law
abbrev pub text_by : ReaderTexts → SignedValue Number → List ℕ
text_by r v = text_between (pair_for r.pairs v.sign) (unsigned_text r.tables v.absolute)

-- ---- readable

-- no digit of a table is in the affixes
abbrev pub is_clear : List ℕ → AffixPair → Bool
is_clear digits pair = has_no_digit digits pair.before && has_no_digit digits pair.after

abbrev pub do_differ : AffixPair → AffixPair → Bool
do_differ one other = not (is_same_pair one.before one.after other.before other.after)

abbrev pub are_clear_pairs : List ℕ → SignPairs → Bool
are_clear_pairs digits pairs = is_clear digits pairs.none && (is_clear digits pairs.minus && is_clear digits pairs.plus)

-- the affixes of the signs differ
abbrev pub do_pairs_differ : SignPairs → Bool
do_pairs_differ pairs = do_differ pairs.none pairs.minus && (do_differ pairs.none pairs.plus && do_differ pairs.minus pairs.plus)

-- the tables are readable, and the text of a number with its unit tells its number and its sign
abbrev pub is_unit_readable_by : ReaderTexts → Bool
is_unit_readable_by r = is_readable_by r.tables && (are_clear_pairs r.tables.digits r.pairs && do_pairs_differ r.pairs)

-- ---- reading

-- this is the text of the decimal with its unit
pub record IsUnitText (r : ReaderTexts) (text : List ℕ) (v : SignedValue Number) : Type 0 where
  pub decimal : IsDecimal v
  pub written : text_by r v ≡ text

-- it is that of no decimal
abbrev pub HasNoDecimal : ReaderTexts → List ℕ → Type 0
HasNoDecimal r text = (v : SignedValue Number) → IsDecimal v → text_by r v ≢ text

-- what is between these affixes has more than sixteen digits
pub record HasManyIn (t : Tables) (pair : AffixPair) (text : List ℕ) : Type 0 where
  pub inner : List ℕ
  pub between : text_between pair inner ≡ text
  pub many : HasManyDigits t inner

-- what is between those of some sign has
pub record HasManyBetween (r : ReaderTexts) (text : List ℕ) : Type 0 where
  pub sign : Sign
  pub many : HasManyIn r.tables (pair_for r.pairs sign) text

-- the text is what the reading says
abbrev pub IsUnitReading : ReaderTexts → List ℕ → PlainReading → Type 0
IsUnitReading r text unreadable = is_unit_readable_by r ≡ false
IsUnitReading r text not_written = (is_unit_readable_by r ≡ true) × HasNoDecimal r text
IsUnitReading r text (decimal v) = (is_unit_readable_by r ≡ true) × IsUnitText r text v

-- ---- without a sign, and of one sign

-- the number is written so without a sign, and has none
pub record IsUnsignedText (t : Tables) (text : List ℕ) (v : SignedValue Number) : Type 0 where
  pub decimal : IsDecimal v
  pub unsigned : v.sign ≡ NoSign
  pub written : unsigned_text t v.absolute ≡ text

abbrev pub HasNoUnsigned : Tables → List ℕ → Type 0
HasNoUnsigned t text = (n : Number) → IsNumber n → unsigned_text t n ≢ text

-- the number between these affixes, with this sign
pub record IsSignedText (t : Tables) (pair : AffixPair) (sign : Sign) (text : List ℕ) (v : SignedValue Number) : Type 0 where
  pub decimal : IsDecimal v
  pub signed : v.sign ≡ sign
  pub written : text_between pair (unsigned_text t v.absolute) ≡ text

abbrev pub HasNoNumberBetween : Tables → AffixPair → List ℕ → Type 0
HasNoNumberBetween t pair text = (n : Number) → IsNumber n → text_between pair (unsigned_text t n) ≢ text

-- ---- texts

-- what holds of every reader: its tables and affixes are texts
pub record AreReaderTexts (r : ReaderTexts) : Type 0 where
  pub tables : AreTables r.tables
  pub before : (sign : Sign) → IsUtf8 (pair_for r.pairs sign).before
  pub after : (sign : Sign) → IsUtf8 (pair_for r.pairs sign).after
