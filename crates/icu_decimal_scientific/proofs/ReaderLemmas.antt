-- The steps of the reader: what a text without its sign is read as, and with each sign.
use Rattle.std.proofs.Common.{Bor, Option, None, Some, IfNone, ◌≡◌, ◌≢◌, ℕ, ℤ, pos, ◌+◌, ◌<◌, true, List, ◌++◌, sym, ap, subst, ◌∙◌, arith, inl, inr, ⊎_elim, ◌^◌}
use Rattle.std.proofs.lemmas.Bool.{cases_lt}
use Rattle.std.proofs.lemmas.List.{append_cancel_left, append_cancel_right}
use Rattle.std.specs.Str.{chars, encode_utf8_all}
use Rattle.fixed_decimal.specs.IntegerText.{ShowsNoFraction}
use Rattle.fixed_decimal.specs.Integers.{IsInteger}
use Rattle.fixed_decimal.specs.Number.{Number, place}
use Rattle.fixed_decimal.specs.Range.{IsHighest}
use Rattle.fixed_decimal.specs.ScientificText.{IsScientific, ScientificValue}
use Rattle.fixed_decimal.specs.Shifts.{PadsStart}
use Rattle.fixed_decimal.specs.SignedValue.{SignedValue}
use Rattle.fixed_decimal.specs.WholeNumbers.{size_of}
use Rattle.fixed_decimal.specs.declared.Sign.{Sign}
use Rattle.fixed_decimal.specs.declared.Sign.TheVariants.{None as NoSign, Negative, Positive}
use Rattle.icu_decimal_plain.specs.Affixes.{affixes_of}
use Rattle.icu_decimal_plain.specs.PlainText.{Tables, decimal_text, prefix_text, suffix_text, unsigned_text}
use Rattle.icu_decimal_reading.specs.DecimalOfText.{HasManyDigits, HasNoNumber, IsPlainText}
use Rattle.icu_decimal_reading.specs.Readable.{is_readable_by}
use Rattle.icu_decimal_reading.specs.ReadingLaws.{AreTables}
use Rattle.icu_decimal_reading.proofs.LawLemmas.{one_decimal}
use Rattle.icu_decimal_reading.proofs.PlainLemmas.{chars_of, encoded_decimal, plain_chars, whole_some}
use Rattle.icu_decimal_scientific.specs.ReadingSteps.{HasManyAround, HasNoExponential, HasNoSplit, HasNoUnsigned, HasNoWhole, HasNoneWith, IsExponentialText, IsOnlySplit, IsUnsigned, IsWholeText, lacks_first, text_with}
use Rattle.icu_decimal_scientific.specs.ScientificReading.{AreScientificTexts, HasManyBeside, HasNoScientific, IsScientificText, is_scientific_readable_by}
use Rattle.icu_decimal_scientific.specs.ExponentialText.{ScientificSettings, exponential_text}
use Rattle.icu_decimal_scientific.specs.ShownNumbers.{IsShownExponent, exponent_sign}
use Rattle.icu_decimal_scientific.specs.declared.shown.ExponentOptions.{ExponentOptions}
use Rattle.icu_decimal_scientific.proofs.ScientificReadingLemmas.{lacks_number, plain_unsigned, tests_of, unsigned_encoded}

-- ---- an exponent as it is shown

padded_high : {n : ℕ} (d : ℕ) (old new : Number) → old.count ≡ n → IsHighest 32768 0 old.count old.high → PadsStart (32768 + d) old new → IsHighest 32768 (32768 + d) new.count new.high
padded_high d old new is h pads =
    ⊎_elim (λ none. unpadded d old new (omega (arith, none)) h pads.count (pads.same (omega (arith, none))))
    (λ some. subst (λ n. IsHighest 32768 (32768 + d) n new.high) (sym pads.count) (pads.high (omega (arith, some)))) (cases_lt d 1)
  where
    unpadded : (d : ℕ) (old new : Number) → d ≡ 0 → IsHighest 32768 0 old.count old.high → new.count ≡ old.count → new.high ≡ old.high → IsHighest 32768 (32768 + d) new.count new.high
    unpadded d old new none h count high = record {
      keeps = let k = h.keeps in omega (arith, k, high);
      position = let k = h.keeps in omega (arith, k, high, none);
      holds = subst (λ n. n < 10 ^ (new.high + 1)) (sym count) (subst (λ k. old.count < 10 ^ (k + 1)) (sym high) h.holds);
      lowest = λ k l p few. let m = h.lowest k l (omega (arith)) (subst (λ n. n < 10 ^ (k + 1)) count few) in omega (arith, m, high);
    }

pub pads_so : (d : ℕ) (position : ℤ) (old new : Number) → position ≡ pos d → PadsStart (place position) old new → PadsStart (32768 + d) old new
pads_so d position old new at pads = subst (λ z. PadsStart (place z) old new) at pads

pub exponent_made : (o : ExponentOptions) (e : ℤ) (sign : Sign) (old new : Number) → IsInteger (size_of e) old → PadsStart (32768 + o.least_digits) old new → sign ≡ exponent_sign o.sign e
    → IsShownExponent o e (record { sign = sign; absolute = new })
exponent_made o e sign old new is pads signed = record {
  sign = signed;
  count = pads.count ∙ is.count;
  low = pads.low ∙ is.low;
  high = padded_high o.least_digits old new is.count is.high pads;
}

-- ---- between two texts

-- what is left of a text has no such end, and so nothing is between the two
pub strip_none : (r : Option (Bor (List ℕ))) (text rest before after : List ℕ) → text ≡ before ++ rest → IfNone r ((front : List ℕ) → rest ≢ front ++ after) → IfNone r ((inner : List ℕ) → text ≢ before ++ (inner ++ after))
strip_none (Some x) text rest before after is none = tt
strip_none None text rest before after is none =
    λ inner same. none inner (append_cancel_left before rest (inner ++ after) (sym is ∙ same))

-- ---- without a sign

pub unsigned_written : (t : Tables) (text : List ℕ) (v : SignedValue Number) → IsPlainText t text v → v.sign ≡ NoSign → IsUnsigned t text v
unsigned_written t text v plain none = record {
  decimal = plain.decimal;
  unsigned = none;
  written = sym (ap (λ sign. decimal_text t (record { sign = sign; absolute = v.absolute })) none ∙ plain_unsigned t v.absolute) ∙ plain.written;
}

pub unsigned_missing : (t : Tables) (text : List ℕ) → HasNoNumber t text → HasNoUnsigned t text
unsigned_missing t text missing n number is = missing (record { sign = NoSign; absolute = n }) number (plain_unsigned t n ∙ is)

-- what is written so with a sign is not written so without one
pub signed_only : (t : Tables) (text : List ℕ) (v : SignedValue Number) → AreTables t → is_readable_by t ≡ true → IsPlainText t text v → v.sign ≢ NoSign → HasNoUnsigned t text
signed_only t text v tables readable plain signed n number is =
    let other : SignedValue Number = record { sign = NoSign; absolute = n } in
    signed (ap (λ (d : SignedValue Number). d.sign) (one_decimal t v other tables readable plain.decimal number (plain.written ∙ sym (plain_unsigned t n ∙ is))))

-- ---- whole numbers

pub whole_written : (t : Tables) (text : List ℕ) (v : SignedValue Number) → IsPlainText t text v → ShowsNoFraction v → IsWholeText t text v
whole_written t text v plain whole = record { decimal = plain.decimal; whole = whole; written = plain.written }

pub whole_missing : (t : Tables) (text : List ℕ) → HasNoNumber t text → HasNoWhole t text
whole_missing t text missing v decimal whole is = missing v decimal is

-- what is written so with a fraction is not written so without one
pub fraction_only : (t : Tables) (text : List ℕ) (v : SignedValue Number) → AreTables t → is_readable_by t ≡ true → IsPlainText t text v → v.absolute.low < 32768 → HasNoWhole t text
fraction_only t text v tables readable plain below w decimal whole is =
    let low : v.absolute.low ≡ w.absolute.low = ap (λ (d : SignedValue Number). d.absolute.low) (one_decimal t v w tables readable plain.decimal decimal (plain.written ∙ sym is)) in
    absurd (omega (arith, below, low, whole))

-- ---- a significand and an exponent

pub exponential_written : (s : ScientificSettings) (text front back : List ℕ) (v exponent : SignedValue Number) → IsOnlySplit s.separator text front back → IsUnsigned s.tables front v → IsWholeText s.exponents back exponent
    → IsExponentialText s text (record { significand = v; exponent = exponent })
exponential_written s text front back v exponent split one other = record {
  number = record { significand = one.decimal; exponent = other.decimal; whole = other.whole };
  unsigned = one.unsigned;
  written = ap (λ f. f ++ (s.separator ++ decimal_text s.exponents exponent)) one.written ∙ ap (λ b. front ++ (s.separator ++ b)) other.written ∙ sym split.whole;
}

-- as characters
exponential_encoded : (s : ScientificSettings) (v : ScientificValue) → AreScientificTexts s → IsScientific v
    → exponential_text s v.significand.absolute v.exponent ≡ encode_utf8_all (chars_of s.tables v.significand.absolute) ++ (s.separator ++ encode_utf8_all (plain_chars s.exponents v.exponent))
exponential_encoded s v are is =
    ap (λ f. f ++ (s.separator ++ decimal_text s.exponents v.exponent)) (unsigned_encoded s.tables v.significand.absolute are.tables is.significand)
    ∙ ap (λ b. encode_utf8_all (chars_of s.tables v.significand.absolute) ++ (s.separator ++ b)) (encoded_decimal s.exponents v.exponent are.exponents (whole_some v.exponent.absolute is.exponent))

lacks_here : (s : ScientificSettings) (n : Number) → AreScientificTexts s → is_scientific_readable_by s ≡ true → lacks_first (chars s.separator) (chars_of s.tables n) ≡ true
lacks_here s n are readable = let tests = tests_of s readable in lacks_number s.tables n (chars s.separator) are.tables tests.tables tests.apart

pub split_missing : (s : ScientificSettings) (text : List ℕ) → AreScientificTexts s → is_scientific_readable_by s ≡ true → HasNoSplit s.separator text → HasNoExponential s text
split_missing s text are readable none v is written =
    none (chars_of s.tables v.significand.absolute) (plain_chars s.exponents v.exponent) (lacks_here s v.significand.absolute are readable) (sym written ∙ exponential_encoded s v are is)

-- its sides are those of each number that is written so
record SameHalves (s : ScientificSettings) (front back : List ℕ) (v : ScientificValue) : Type 0 where
  pub front_is : unsigned_text s.tables v.significand.absolute ≡ front
  pub back_is : decimal_text s.exponents v.exponent ≡ back

same_halves : (s : ScientificSettings) (text front back : List ℕ) (v : ScientificValue) → AreScientificTexts s → is_scientific_readable_by s ≡ true → IsOnlySplit s.separator text front back → IsScientific v
    → exponential_text s v.significand.absolute v.exponent ≡ text → SameHalves s front back v
same_halves s text front back v are readable split is written =
    let only = split.only (chars_of s.tables v.significand.absolute) (plain_chars s.exponents v.exponent) (lacks_here s v.significand.absolute are readable) (sym written ∙ exponential_encoded s v are is) in
    record {
      front_is = unsigned_encoded s.tables v.significand.absolute are.tables is.significand ∙ sym only.0;
      back_is = encoded_decimal s.exponents v.exponent are.exponents (whole_some v.exponent.absolute is.exponent) ∙ sym only.1;
    }

pub front_missing : (s : ScientificSettings) (text front back : List ℕ) → AreScientificTexts s → is_scientific_readable_by s ≡ true → IsOnlySplit s.separator text front back → HasNoUnsigned s.tables front → HasNoExponential s text
front_missing s text front back are readable split missing v is written =
    missing v.significand.absolute is.significand (same_halves s text front back v are readable split is written).front_is

pub back_missing : (s : ScientificSettings) (text front back : List ℕ) → AreScientificTexts s → is_scientific_readable_by s ≡ true → IsOnlySplit s.separator text front back → HasNoWhole s.exponents back → HasNoExponential s text
back_missing s text front back are readable split missing v is written =
    missing v.exponent is.exponent is.whole (same_halves s text front back v are readable split is written).back_is

pub front_many : (s : ScientificSettings) (text front back : List ℕ) → IsOnlySplit s.separator text front back → HasManyDigits s.tables front → HasManyAround s text
front_many s text front back split many = record { front = front; back = back; cut = split.whole; many = inl many }

pub back_many : (s : ScientificSettings) (text front back : List ℕ) → IsOnlySplit s.separator text front back → HasManyDigits s.exponents back → HasManyAround s text
back_many s text front back split many = record { front = front; back = back; cut = split.whole; many = inr many }

-- ---- with a sign

pub signed_written : (s : ScientificSettings) (sign : Sign) (text inner : List ℕ) (v : ScientificValue) → text ≡ text_with s sign inner → IsExponentialText s inner v
    → IsScientificText s text (record { significand = record { sign = sign; absolute = v.significand.absolute }; exponent = v.exponent })
signed_written s sign text inner v is plain = record {
  number = record { significand = plain.number.significand; exponent = plain.number.exponent; whole = plain.number.whole };
  written = ap (text_with s sign) plain.written ∙ sym is;
}

pub signed_missing : (s : ScientificSettings) (sign : Sign) (text inner : List ℕ) → text ≡ text_with s sign inner → HasNoExponential s inner → HasNoneWith s sign text
signed_missing s sign text inner is missing v number written =
    let affixes = affixes_of s.tables.symbols.strings sign in
    let whole : List ℕ = exponential_text s v.significand.absolute v.exponent in
    missing v number (append_cancel_right whole inner (suffix_text affixes) (append_cancel_left (prefix_text affixes) (whole ++ suffix_text affixes) (inner ++ suffix_text affixes) (written ∙ is)))

pub sign_missing : (s : ScientificSettings) (sign : Sign) (text : List ℕ) → ((inner : List ℕ) → text ≢ text_with s sign inner) → HasNoneWith s sign text
sign_missing s sign text none v number written = none (exponential_text s v.significand.absolute v.exponent) (sym written)

pub signed_many : (s : ScientificSettings) (sign : Sign) (text inner : List ℕ) → text ≡ text_with s sign inner → HasManyAround s inner → HasManyBeside s text
signed_many s sign text inner is many =
    let affixes = affixes_of s.tables.symbols.strings sign in
    record {
      before = prefix_text affixes;
      front = many.front;
      back = many.back;
      after = suffix_text affixes;
      cut = is ∙ ap (text_with s sign) many.cut;
      many = many.many;
    }

missing_by : (s : ScientificSettings) (text : List ℕ) (sign : Sign) → HasNoneWith s NoSign text → HasNoneWith s Negative text → HasNoneWith s Positive text → HasNoneWith s sign text
missing_by s text NoSign none minus plus = none
missing_by s text Negative none minus plus = minus
missing_by s text Positive none minus plus = plus

pub none_with_any : (s : ScientificSettings) (text : List ℕ) → HasNoneWith s NoSign text → HasNoneWith s Negative text → HasNoneWith s Positive text → HasNoScientific s text
none_with_any s text none minus plus v number = missing_by s text v.significand.sign none minus plus v number
