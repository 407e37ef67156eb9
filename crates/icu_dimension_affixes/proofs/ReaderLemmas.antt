-- The steps of a reader: what is between the affixes of a sign.
use Rattle.std.proofs.Common.{Bor, ◌≡◌, ◌≢◌, ℕ, true, List, ◌++◌, Option, None, Some, IfNone, refl, sym, ap, ◌∙◌}
use Rattle.std.proofs.lemmas.Bool.{and_parts}
use Rattle.std.proofs.lemmas.List.{append-nil, append_cancel_left, append_cancel_right}
use Rattle.fixed_decimal.specs.Number.{Number}
use Rattle.fixed_decimal.specs.SignedValue.{SignedValue}
use Rattle.fixed_decimal.specs.declared.Sign.{Sign}
use Rattle.fixed_decimal.specs.declared.Sign.TheVariants.{None as NoSign, Negative, Positive}
use Rattle.icu_decimal_plain.specs.PlainText.{Tables, decimal_text, unsigned_text}
use Rattle.icu_decimal_reading.specs.DecimalOfText.{HasManyDigits, HasNoNumber, IsPlainText}
use Rattle.icu_decimal_reading.specs.Readable.{is_readable_by}
use Rattle.icu_decimal_reading.specs.ReadingLaws.{AreTables}
use Rattle.icu_decimal_reading.proofs.LawLemmas.{one_decimal}
use Rattle.icu_dimension_affixes.specs.UnitPatterns.{AffixPair}
use Rattle.icu_dimension_affixes.specs.UnitReading.{HasManyBetween, HasManyIn, HasNoDecimal, HasNoNumberBetween, HasNoUnsigned, IsSignedText, IsUnitText, IsUnsignedText, ReaderTexts, is_unit_readable_by, pair_for}
use Rattle.icu_dimension_affixes.specs.UnitText.{text_between}

-- what is left of a text has no such end, and so nothing is between the two
pub strip_none : (r : Option (Bor (List ℕ))) (text rest before after : List ℕ) → text ≡ before ++ rest → IfNone r ((front : List ℕ) → rest ≢ front ++ after) → IfNone r ((inner : List ℕ) → text ≢ before ++ (inner ++ after))
strip_none (Some x) text rest before after is none = tt
strip_none None text rest before after is none =
    λ inner same. none inner (append_cancel_left before rest (inner ++ after) (sym is ∙ same))

-- ---- without a sign

-- the affixes of no sign are empty
pub plain_unsigned : (t : Tables) (n : Number) → decimal_text t (record { sign = NoSign; absolute = n }) ≡ unsigned_text t n
plain_unsigned t n = append-nil (unsigned_text t n)

pub unsigned_written : (t : Tables) (text : List ℕ) (v : SignedValue Number) → IsPlainText t text v → v.sign ≡ NoSign → IsUnsignedText t text v
unsigned_written t text v plain none = record {
  decimal = plain.decimal;
  unsigned = none;
  written = sym (ap (λ sign. decimal_text t (record { sign = sign; absolute = v.absolute })) none ∙ plain_unsigned t v.absolute) ∙ plain.written;
}

pub unsigned_missing : (t : Tables) (text : List ℕ) → HasNoNumber t text → HasNoUnsigned t text
unsigned_missing t text missing n number is = missing (record { sign = NoSign; absolute = n }) number (plain_unsigned t n ∙ is)

-- what is written so with a sign is not written so without one
pub signed_only : (t : Tables) (text : List ℕ) (v : SignedValue Number) → AreTables t → is_readable_by t ≡ true → IsPlainText t text v → v.sign ≢ NoSign → HasNoUnsigned t text
signed_only t text v tables readable plain signed n number is =
    let other : SignedValue Number = record { sign = NoSign; absolute = n } in
    signed (ap (λ (d : SignedValue Number). d.sign) (one_decimal t v other tables readable plain.decimal number (plain.written ∙ sym (plain_unsigned t n ∙ is))))

-- ---- between the affixes of a sign

pub between_written : (t : Tables) (pair : AffixPair) (sign : Sign) (text inner : List ℕ) (v : SignedValue Number) → text ≡ pair.before ++ (inner ++ pair.after) → IsUnsignedText t inner v → IsSignedText t pair sign text (record { sign = sign; absolute = v.absolute })
between_written t pair sign text inner v is unsigned = record {
  decimal = unsigned.decimal;
  signed = refl;
  written = ap (λ number. pair.before ++ (number ++ pair.after)) unsigned.written ∙ sym is;
}

pub between_missing : (t : Tables) (pair : AffixPair) (text inner : List ℕ) → text ≡ pair.before ++ (inner ++ pair.after) → HasNoUnsigned t inner → HasNoNumberBetween t pair text
between_missing t pair text inner is missing n number written =
    missing n number (append_cancel_right (unsigned_text t n) inner pair.after (append_cancel_left pair.before (unsigned_text t n ++ pair.after) (inner ++ pair.after) (written ∙ is)))

pub between_nothing : (t : Tables) (pair : AffixPair) (text : List ℕ) → ((inner : List ℕ) → text ≢ pair.before ++ (inner ++ pair.after)) → HasNoNumberBetween t pair text
between_nothing t pair text none n number written = none (unsigned_text t n) (sym written)

pub between_many : (t : Tables) (pair : AffixPair) (text inner : List ℕ) → text ≡ pair.before ++ (inner ++ pair.after) → HasManyDigits t inner → HasManyIn t pair text
between_many t pair text inner is many = record { inner = inner; between = sym is; many = many }

-- ---- of any sign

pub readable_tables : (r : ReaderTexts) → is_unit_readable_by r ≡ true → is_readable_by r.tables ≡ true
readable_tables r readable = (and_parts (is_readable_by r.tables) _ readable).0

pub unit_written : (r : ReaderTexts) (sign : Sign) (text : List ℕ) (v : SignedValue Number) → IsSignedText r.tables (pair_for r.pairs sign) sign text v → IsUnitText r text v
unit_written r sign text v signed = record {
  decimal = signed.decimal;
  written = ap (λ s. text_between (pair_for r.pairs s) (unsigned_text r.tables v.absolute)) signed.signed ∙ signed.written;
}

missing_by : (r : ReaderTexts) (text : List ℕ) (sign : Sign) → HasNoNumberBetween r.tables r.pairs.none text → HasNoNumberBetween r.tables r.pairs.minus text → HasNoNumberBetween r.tables r.pairs.plus text → HasNoNumberBetween r.tables (pair_for r.pairs sign) text
missing_by r text NoSign none minus plus = none
missing_by r text Negative none minus plus = minus
missing_by r text Positive none minus plus = plus

pub unit_missing : (r : ReaderTexts) (text : List ℕ) → HasNoNumberBetween r.tables r.pairs.none text → HasNoNumberBetween r.tables r.pairs.minus text → HasNoNumberBetween r.tables r.pairs.plus text → HasNoDecimal r text
unit_missing r text none minus plus v decimal = missing_by r text v.sign none minus plus v.absolute decimal

pub unit_many : (r : ReaderTexts) (sign : Sign) (text : List ℕ) → HasManyIn r.tables (pair_for r.pairs sign) text → HasManyBetween r text
unit_many r sign text many = record { sign = sign; many = many }
