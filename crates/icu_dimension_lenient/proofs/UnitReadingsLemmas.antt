-- The reading that the function answers is the one that the relation of `icu_dimension_affixes` names: `specs/UnitReadings.antt`.
use Rattle.std.proofs.Common.{◌≡◌, ℕ, ◌-◌, Bool, true, false, cond, List, ◌++◌, length, take, Option, Some, None, Result, Ok, Err, IfOk, IsErrOf, refl, sym, ap, ◌∙◌, subst, arith}
use Rattle.std.specs.Cmp.Lexicographic.{bytes_decides}
use Rattle.std.specs.Str.{bytes_eq}
use Rattle.std.proofs.Math.Seq.{drop-append_seam, take-append_seam}
use Rattle.std.proofs.lemmas.Bool.{and_parts, false≢true}
use Rattle.std.proofs.lemmas.List.{length-append}
use Rattle.fixed_decimal.specs.Number.{IsNumber, Number}
use Rattle.fixed_decimal.specs.SignedValue.{SignedValue}
use Rattle.fixed_decimal.specs.declared.Sign.{Sign}
use Rattle.fixed_decimal.specs.declared.Sign.TheVariants.{None as NoSign, Negative, Positive}
use Rattle.icu_decimal_reading.specs.declared.error.ReadError.{ReadError}
use Rattle.icu_decimal_reading.specs.declared.error.ReadError.TheVariants.{Unreadable, NotWritten, Memory}
use Rattle.icu_decimal_reading.specs.PlainReading.{IsAnswered, IsPlainText, PlainReading, decimal, not_written, plain_reading, unreadable}
use Rattle.icu_decimal_plain.specs.PlainText.{Tables, decimal_text, unsigned_text}
use Rattle.icu_decimal_reading.specs.Readable.{is_readable_by}
use Rattle.icu_decimal_reading.specs.ReadingLaws.{AreTables}
use Rattle.icu_decimal_reading.proofs.LawLemmas.{one_reading, reads_back}
use Rattle.icu_decimal_lenient.specs.LenientReading.{or_else}
use Rattle.icu_dimension_affixes.specs.UnitPatterns.{AffixPair}
use Rattle.icu_dimension_affixes.specs.UnitReading.{AreReaderTexts, HasNoDecimal, HasNoNumberBetween, IsSignedText, IsUnitReading, IsUnitText, ReaderTexts, is_unit_readable_by, pair_for, text_by}
use Rattle.icu_dimension_affixes.specs.UnitText.{text_between}
use Rattle.icu_dimension_affixes.proofs.ReaderLemmas.{plain_unsigned, unsigned_written}
use Rattle.icu_dimension_affixes.proofs.UnitReadingLemmas.{one_unit_reading}
use Rattle.icu_dimension_lenient.specs.NativeUnitLaws.{HasOneExactReading}
use Rattle.icu_dimension_lenient.specs.LenientUnits.{signed_as, with_own_sign}
use Rattle.icu_dimension_lenient.specs.OwnUnitTexts.{is_own_unit_text}
use Rattle.icu_dimension_lenient.proofs.OwnUnitLemmas.{own_under, plain_written}
use Rattle.icu_dimension_lenient.specs.UnitReadings.{any_reading, inner_of, inner_reading, reading_between, trimmed_by, unit_reading}

-- ---- what is between two affixes

inner_is : (pair : AffixPair) (text inner : List ℕ) → inner_of pair text ≡ Some inner → text_between pair inner ≡ text
inner_is pair text inner is = at (bytes_eq (text_between pair (trimmed_by pair text)) text) refl is
  where
    at : (b : Bool) → bytes_eq (text_between pair (trimmed_by pair text)) text ≡ b → cond b (Some (trimmed_by pair text)) None ≡ Some inner → text_between pair inner ≡ text
    at true same is =
        let one : trimmed_by pair text ≡ inner = cc in
        subst (λ x. text_between pair x ≡ text) one ((bytes_decides (text_between pair (trimmed_by pair text)) text).0 same)
    at false same is = absurd (cc)

trimmed_is : (pair : AffixPair) (inner : List ℕ) → trimmed_by pair (text_between pair inner) ≡ inner
trimmed_is pair inner =
    let whole = length-append pair.before (inner ++ pair.after) in
    let behind = length-append inner pair.after in
    let size : length (text_between pair inner) - length pair.before - length pair.after ≡ length inner = omega (arith, whole, behind) in
    ap (λ rest. take (length (text_between pair inner) - length pair.before - length pair.after) rest) (drop-append_seam pair.before (inner ++ pair.after))
    ∙ ap (λ n. take n (inner ++ pair.after)) size
    ∙ take-append_seam inner pair.after

inner_there : (pair : AffixPair) (text inner : List ℕ) → text_between pair inner ≡ text → inner_of pair text ≡ Some inner
inner_there pair text inner is =
    let whole : List ℕ = text_between pair inner in
    subst (λ text. inner_of pair text ≡ Some inner) is (
    ap (λ x. cond (bytes_eq (text_between pair x) whole) (Some x) None) (trimmed_is pair inner)
    ∙ ap (λ b. cond b (Some inner) None) ((bytes_decides whole whole).1 refl)
    )

-- ---- between the affixes of one sign

signed_is : (t : Tables) (pair : AffixPair) (sign : Sign) (text inner : List ℕ) (v : SignedValue Number) (reading : PlainReading) → AreTables t → text_between pair inner ≡ text
    → plain_reading t inner ≡ reading → signed_as sign reading ≡ decimal v → IsSignedText t pair sign text v
signed_is t pair sign text inner v unreadable tables whole read is = absurd (cc)
signed_is t pair sign text inner v not_written tables whole read is = absurd (cc)
signed_is t pair sign text inner v (decimal u) tables whole read is = at u.sign refl is
  where
    plain : IsPlainText t inner u
    plain = ((one_reading t inner (decimal u) tables).1 (sym read)).1

    at : (s : Sign) → u.sign ≡ s → with_own_sign sign s u.absolute ≡ decimal v → IsSignedText t pair sign text v
    at NoSign none is =
        let same : ◌≡◌ {A = SignedValue Number} (record { sign = sign; absolute = u.absolute }) v = cc in
        subst (IsSignedText t pair sign text) same (record {
          decimal = plain.decimal;
          signed = refl;
          written = ap (λ number. text_between pair number) (unsigned_written t inner u plain none).written ∙ whole;
        })
    at Negative none is = absurd (cc)
    at Positive none is = absurd (cc)

between_is : (t : Tables) (pair : AffixPair) (sign : Sign) (text : List ℕ) (v : SignedValue Number) → AreTables t → reading_between t pair sign text ≡ decimal v → IsSignedText t pair sign text v
between_is t pair sign text v tables is = at (inner_of pair text) refl is
  where
    at : (inner : Option (List ℕ)) → inner_of pair text ≡ inner → inner_reading t sign inner ≡ decimal v → IsSignedText t pair sign text v
    at None found is = absurd (cc)
    at (Some inner) found is = signed_is t pair sign text inner v (plain_reading t inner) tables (inner_is pair text inner found) refl is

-- a number that is written so is read
number_there : (t : Tables) (pair : AffixPair) (sign : Sign) (text : List ℕ) (n : Number) → AreTables t → is_readable_by t ≡ true → IsNumber n → text_between pair (unsigned_text t n) ≡ text
    → reading_between t pair sign text ≡ decimal (record { sign = sign; absolute = n })
number_there t pair sign text n tables readable number is =
    ap (inner_reading t sign) (inner_there pair text (unsigned_text t n) is)
    ∙ ap (signed_as sign) (ap (plain_reading t) (sym (plain_unsigned t n)) ∙ reads_back t (record { sign = NoSign; absolute = n }) tables readable number)

none_between : (t : Tables) (pair : AffixPair) (sign : Sign) (text : List ℕ) → AreTables t → is_readable_by t ≡ true → reading_between t pair sign text ≡ not_written → HasNoNumberBetween t pair text
none_between t pair sign text tables readable is = λ n number written.
    let there : reading_between t pair sign text ≡ decimal (record { sign = sign; absolute = n }) = number_there t pair sign text n tables readable number written in
    let bad : ◌≡◌ {A = PlainReading} not_written (decimal (record { sign = sign; absolute = n })) = sym is ∙ there in
    absurd (cc)

-- readable tables are not refused
pub signed_unreadable : (sign : Sign) (reading : PlainReading) → signed_as sign reading ≡ unreadable → reading ≡ unreadable
signed_unreadable sign unreadable is = refl
signed_unreadable sign not_written is = absurd (cc)
signed_unreadable sign (decimal u) is = at u.sign is
  where
    at : (s : Sign) → with_own_sign sign s u.absolute ≡ unreadable → decimal u ≡ unreadable
    at NoSign is = absurd (cc)
    at Negative is = absurd (cc)
    at Positive is = absurd (cc)

never_unreadable : (t : Tables) (pair : AffixPair) (sign : Sign) (text : List ℕ) → AreTables t → is_readable_by t ≡ true → reading_between t pair sign text ≡ unreadable → ⊥
never_unreadable t pair sign text tables readable is = at (inner_of pair text) is
  where
    at : (inner : Option (List ℕ)) → inner_reading t sign inner ≡ unreadable → ⊥
    at None is = cc
    at (Some inner) is = false≢true (sym ((one_reading t inner unreadable tables).1 (sym (signed_unreadable sign (plain_reading t inner) is))) ∙ readable)

-- ---- between those of some sign

module _ (r : ReaderTexts) (text : List ℕ) (texts : AreReaderTexts r) (readable : is_unit_readable_by r ≡ true) where
  plain : is_readable_by r.tables ≡ true
  plain = (and_parts (is_readable_by r.tables) _ readable).0

  -- the number of a sign is a number with the unit
  written_so : (sign : Sign) (v : SignedValue Number) → IsSignedText r.tables (pair_for r.pairs sign) sign text v → IsUnitText r text v
  written_so sign v signed = record {
    decimal = signed.decimal;
    written = ap (λ s. text_between (pair_for r.pairs s) (unsigned_text r.tables v.absolute)) signed.signed ∙ signed.written;
  }

  found : (sign : Sign) (v : SignedValue Number) → reading_between r.tables (pair_for r.pairs sign) sign text ≡ decimal v → IsUnitReading r text (decimal v)
  found sign v is = (readable, written_so sign v (between_is r.tables (pair_for r.pairs sign) sign text v texts.tables is))

  never : {P : Type 0} → (sign : Sign) → reading_between r.tables (pair_for r.pairs sign) sign text ≡ unreadable → P
  never sign is = absurd (never_unreadable r.tables (pair_for r.pairs sign) sign text texts.tables plain is)

  no_number : (sign : Sign) → reading_between r.tables (pair_for r.pairs sign) sign text ≡ not_written → HasNoNumberBetween r.tables (pair_for r.pairs sign) text
  no_number sign is = none_between r.tables (pair_for r.pairs sign) sign text texts.tables plain is

  none_of : (sign : Sign) → HasNoNumberBetween r.tables r.pairs.none text → HasNoNumberBetween r.tables r.pairs.minus text → HasNoNumberBetween r.tables r.pairs.plus text
      → HasNoNumberBetween r.tables (pair_for r.pairs sign) text
  none_of NoSign none minus plus = none
  none_of Negative none minus plus = minus
  none_of Positive none minus plus = plus

  any_is : (none minus plus : PlainReading) → reading_between r.tables r.pairs.none NoSign text ≡ none
      → reading_between r.tables r.pairs.minus Negative text ≡ minus → reading_between r.tables r.pairs.plus Positive text ≡ plus
      → IsUnitReading r text (or_else none (or_else minus plus))
  any_is unreadable minus plus first second third = never NoSign first
  any_is (decimal v) minus plus first second third = found NoSign v first
  any_is not_written unreadable plus first second third = never Negative second
  any_is not_written (decimal v) plus first second third = found Negative v second
  any_is not_written not_written unreadable first second third = never Positive third
  any_is not_written not_written (decimal v) first second third = found Positive v third
  any_is not_written not_written not_written first second third =
      (readable, λ v is. none_of v.sign (no_number NoSign first) (no_number Negative second) (no_number Positive third) v.absolute is)

pub unit_reading_is : (r : ReaderTexts) (text : List ℕ) → AreReaderTexts r → IsUnitReading r text (unit_reading r text)
unit_reading_is r text texts = at (is_unit_readable_by r) refl
  where
    at : (b : Bool) → is_unit_readable_by r ≡ b → IsUnitReading r text (cond b (any_reading r text) unreadable)
    at true readable = any_is r text texts readable _ _ _ refl refl refl
    at false broken = broken

pub one_unit : HasOneExactReading
one_unit r text reading texts = (
  (λ is. one_unit_reading r text reading (unit_reading r text) texts is (unit_reading_is r text texts)),
  (λ same. subst (IsUnitReading r text) (sym same) (unit_reading_is r text texts)),
)

-- ---- a call that reads

-- of a reader that is readable, what a call answers is the reading of the function
pub answered : (r : ReaderTexts) (text : List ℕ) (result : Result (SignedValue Number) ReadError) → AreReaderTexts r → is_unit_readable_by r ≡ true
    → (IsErrOf result Unreadable → ⊥) → (IsErrOf result NotWritten → HasNoDecimal r text) → IfOk result (λ v. IsUnitText r text v) → IsAnswered result (unit_reading r text)
answered r text (Ok v) texts readable never missing is = sym ((one_unit r text (decimal v) texts).0 (readable, is))
answered r text (Err Unreadable) texts readable never missing is = absurd (never refl)
answered r text (Err NotWritten) texts readable never missing is = sym ((one_unit r text not_written texts).0 (readable, missing refl))
answered r text (Err Memory) texts readable never missing is = tt

-- where it is not readable, no text is read
pub unread : (r : ReaderTexts) (text : List ℕ) → is_unit_readable_by r ≡ false → unit_reading r text ≡ unreadable
unread r text broken = ap (λ b. cond b (any_reading r text) unreadable) broken

-- ---- what is read is written so

-- the number between the affixes of a sign
record IsWrittenBetween (t : Tables) (pair : AffixPair) (sign : Sign) (text : List ℕ) (v : SignedValue Number) : Type 0 where
  pub signed : v.sign ≡ sign
  pub written : text_between pair (unsigned_text t v.absolute) ≡ text

signed_written : (t : Tables) (pair : AffixPair) (sign : Sign) (text inner : List ℕ) (v : SignedValue Number) (reading : PlainReading) → text_between pair inner ≡ text
    → plain_reading t inner ≡ reading → signed_as sign reading ≡ decimal v → IsWrittenBetween t pair sign text v
signed_written t pair sign text inner v unreadable whole read is = absurd (cc)
signed_written t pair sign text inner v not_written whole read is = absurd (cc)
signed_written t pair sign text inner v (decimal u) whole read is = at u.sign refl is
  where
    at : (s : Sign) → u.sign ≡ s → with_own_sign sign s u.absolute ≡ decimal v → IsWrittenBetween t pair sign text v
    at NoSign none is =
        let same : ◌≡◌ {A = SignedValue Number} (record { sign = sign; absolute = u.absolute }) v = cc in
        let plain : decimal_text t (record { sign = NoSign; absolute = u.absolute }) ≡ inner = ap (λ s. decimal_text t (record { sign = s; absolute = u.absolute })) (sym none) ∙ plain_written t inner u read in
        subst (IsWrittenBetween t pair sign text) same (record {
          signed = refl;
          written = ap (λ number. text_between pair number) (sym (plain_unsigned t u.absolute) ∙ plain) ∙ whole;
        })
    at Negative none is = absurd (cc)
    at Positive none is = absurd (cc)

between_written : (t : Tables) (pair : AffixPair) (sign : Sign) (text : List ℕ) (v : SignedValue Number) → reading_between t pair sign text ≡ decimal v → IsWrittenBetween t pair sign text v
between_written t pair sign text v is = at (inner_of pair text) refl is
  where
    at : (inner : Option (List ℕ)) → inner_of pair text ≡ inner → inner_reading t sign inner ≡ decimal v → IsWrittenBetween t pair sign text v
    at None found is = absurd (cc)
    at (Some inner) found is = signed_written t pair sign text inner v (plain_reading t inner) (inner_is pair text inner found) refl is

any_written : (r : ReaderTexts) (text : List ℕ) (v : SignedValue Number) (none minus plus : PlainReading) → reading_between r.tables r.pairs.none NoSign text ≡ none
    → reading_between r.tables r.pairs.minus Negative text ≡ minus → reading_between r.tables r.pairs.plus Positive text ≡ plus
    → or_else none (or_else minus plus) ≡ decimal v → text_by r v ≡ text
any_written r text v none minus plus first second third is = at none minus plus first second third is
  where
    by : (sign : Sign) → IsWrittenBetween r.tables (pair_for r.pairs sign) sign text v → text_by r v ≡ text
    by sign found = ap (λ s. text_between (pair_for r.pairs s) (unsigned_text r.tables v.absolute)) found.signed ∙ found.written

    at : (none minus plus : PlainReading) → reading_between r.tables r.pairs.none NoSign text ≡ none
        → reading_between r.tables r.pairs.minus Negative text ≡ minus → reading_between r.tables r.pairs.plus Positive text ≡ plus
        → or_else none (or_else minus plus) ≡ decimal v → text_by r v ≡ text
    at unreadable minus plus first second third is = absurd (cc)
    at (decimal u) minus plus first second third is = by NoSign (between_written r.tables r.pairs.none NoSign text v (first ∙ is))
    at not_written unreadable plus first second third is = absurd (cc)
    at not_written (decimal u) plus first second third is = by Negative (between_written r.tables r.pairs.minus Negative text v (second ∙ is))
    at not_written not_written plus first second third is = by Positive (between_written r.tables r.pairs.plus Positive text v (third ∙ is))

pub unit_written_again : (r : ReaderTexts) (text : List ℕ) (v : SignedValue Number) → unit_reading r text ≡ decimal v → text_by r v ≡ text
unit_written_again r text v is = at (is_unit_readable_by r) is
  where
    at : (b : Bool) → cond b (any_reading r text) unreadable ≡ decimal v → text_by r v ≡ text
    at true is = any_written r text v _ _ _ refl refl refl is
    at false is = absurd (cc)

pub own_when_read : (r : ReaderTexts) (text : List ℕ) (v : SignedValue Number) → unit_reading r text ≡ decimal v → is_own_unit_text r text v ≡ true
own_when_read r text v is = own_under r r.tables.strategy text v (unit_written_again r text v is)
