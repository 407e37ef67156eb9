-- Reading and writing are inverse to each other: a text has one decimal, and the function finds it.
use Rattle.std.proofs.Common.{◌≡◌, ℕ, ◌<◌, Bool, true, false, cond, not, List, [], ◌∷◌, ◌++◌, length, map, is_none, Result, Ok, Err, IfOk, IsErrOf, refl, sym, ap, subst, ◌∙◌, arith}
use Rattle.std.proofs.lemmas.Bool.{and_from, and_parts, both_ways, false_from_ne_true, false≢true, not-true}
use Rattle.std.proofs.lemmas.List.{append_cancel_left, length-map}
use Rattle.std.proofs.lemmas.Str.{chars_from_encodes, encodes_same}
use Rattle.std.specs.Cmp.Lexicographic.{bytes_decides}
use Rattle.std.specs.Str.{IsUtf8, bytes_eq, chars}
use Rattle.fixed_decimal.specs.Number.{IsNumber, Number, fraction_digits, whole_digits}
use Rattle.fixed_decimal.specs.NumberText.{AreDigits, after_point, character}
use Rattle.fixed_decimal.specs.SignedText.{ReadsSigned}
use Rattle.fixed_decimal.specs.SignedValue.{SignedValue}
use Rattle.fixed_decimal.specs.TextLaws.{IsDecimal}
use Rattle.fixed_decimal.specs.declared.Sign.{Sign}
use Rattle.fixed_decimal.specs.declared.Sign.TheVariants.{None as NoSign, Negative, Positive}
use Rattle.fixed_decimal.proofs.SignedReadOnceLemmas.{same_signed, signed_reads_once}
use Rattle.icu_decimal_plain.specs.PlainText.{Tables, decimal_text}
use Rattle.icu_decimal_reading.specs.DecimalOfText.{HasNoNumber, IsAnswered, IsPlainText, IsReading, PlainReading, decimal, not_written, unreadable}
use Rattle.icu_decimal_reading.specs.PlainReading.{fraction_in, is_text_of, is_within, number_with, plain_reading, signed_reading, whole_in, with_sign}
use Rattle.icu_decimal_reading.specs.declared.error.ReadError.{ReadError}
use Rattle.icu_decimal_reading.specs.declared.error.ReadError.TheVariants.{Unreadable, NotWritten, Memory}
use Rattle.icu_decimal_reading.specs.Readable.{digit_of, do_signs_differ, is_readable_by, is_same_pair}
use Rattle.icu_decimal_reading.specs.ReadingLaws.{AreTables, AutoIsAlways, HasOneReading, ReadIsWrittenAgain, TextsHaveOneDecimal, WrittenReadsBack}
use Rattle.icu_decimal_reading.proofs.NumberLemmas.{fraction_digits_are, is_number, number_again, number_read, whole_digits_are, within_read}
use Rattle.icu_decimal_reading.proofs.PlainLemmas.{chars_of, decimal_utf8, digit_first, encoded_decimal, fraction_again, plain_chars, prefix_clear, prefix_for, prefix_utf8, same_chars, suffix_for, suffix_utf8, tests_of, whole_again, whole_some}
use Rattle.icu_decimal_reading.proofs.ReadingLemmas.{first_sign, fraction_of, no_sign_fits, reading_past, reading_signed, reading_unreadable, second_sign, third_sign, whole_of}
use Rattle.icu_decimal_reading.proofs.ScanLemmas.{no_digits}

-- ---- signs

pair_apart : (p s q r : List ℕ) → not (is_same_pair p s q r) ≡ true → p ≡ q → s ≡ r → ⊥
pair_apart p s q r other first second =
    both_ways (is_same_pair p s q r) (not-true (is_same_pair p s q r) other) (and_from (bytes_eq p q) (bytes_eq s r) ((bytes_decides p q).1 first) ((bytes_decides s r).1 second))

-- signs with one pair of affixes are one
pub signs_tell : (t : Tables) (a b : Sign) → is_readable_by t ≡ true → prefix_for t a ≡ prefix_for t b → suffix_for t a ≡ suffix_for t b → a ≡ b
signs_tell t a b readable = by a b (tests_of t readable).signs
  where
    minus_apart : do_signs_differ t.symbols.strings ≡ true → t.symbols.strings.minus_sign_prefix ≡ [] → t.symbols.strings.minus_sign_suffix ≡ [] → ⊥
    minus_apart signs = let parts = and_parts (not (is_same_pair t.symbols.strings.minus_sign_prefix t.symbols.strings.minus_sign_suffix [] [])) _ signs in
        pair_apart t.symbols.strings.minus_sign_prefix t.symbols.strings.minus_sign_suffix [] [] parts.0

    plus_apart : do_signs_differ t.symbols.strings ≡ true → t.symbols.strings.plus_sign_prefix ≡ [] → t.symbols.strings.plus_sign_suffix ≡ [] → ⊥
    plus_apart signs =
        let parts = and_parts (not (is_same_pair t.symbols.strings.minus_sign_prefix t.symbols.strings.minus_sign_suffix [] [])) _ signs in
        let rest = and_parts (not (is_same_pair t.symbols.strings.plus_sign_prefix t.symbols.strings.plus_sign_suffix [] [])) _ parts.1 in
        pair_apart t.symbols.strings.plus_sign_prefix t.symbols.strings.plus_sign_suffix [] [] rest.0

    both_apart : do_signs_differ t.symbols.strings ≡ true → t.symbols.strings.minus_sign_prefix ≡ t.symbols.strings.plus_sign_prefix → t.symbols.strings.minus_sign_suffix ≡ t.symbols.strings.plus_sign_suffix → ⊥
    both_apart signs =
        let parts = and_parts (not (is_same_pair t.symbols.strings.minus_sign_prefix t.symbols.strings.minus_sign_suffix [] [])) _ signs in
        let rest = and_parts (not (is_same_pair t.symbols.strings.plus_sign_prefix t.symbols.strings.plus_sign_suffix [] [])) _ parts.1 in
        pair_apart t.symbols.strings.minus_sign_prefix t.symbols.strings.minus_sign_suffix t.symbols.strings.plus_sign_prefix t.symbols.strings.plus_sign_suffix rest.1

    by : (a b : Sign) → do_signs_differ t.symbols.strings ≡ true → prefix_for t a ≡ prefix_for t b → suffix_for t a ≡ suffix_for t b → a ≡ b
    by NoSign NoSign signs p s = refl
    by NoSign Negative signs p s = absurd (minus_apart signs (sym p) (sym s))
    by NoSign Positive signs p s = absurd (plus_apart signs (sym p) (sym s))
    by Negative NoSign signs p s = absurd (minus_apart signs p s)
    by Negative Negative signs p s = refl
    by Negative Positive signs p s = absurd (both_apart signs p s)
    by Positive NoSign signs p s = absurd (plus_apart signs p s)
    by Positive Negative signs p s = absurd (both_apart signs (sym p) (sym s))
    by Positive Positive signs p s = refl

-- what is before the first digit
pub front_of : List ℕ → List ℕ → List ℕ
front_of ds [] = []
front_of ds (c ∷ cs) = cond (is_none (digit_of ds c)) (c ∷ front_of ds cs) []

front_stops : (ds rest : List ℕ) (x : ℕ) → is_none (digit_of ds x) ≡ false → front_of ds (x ∷ rest) ≡ []
unfolding front_of
front_stops ds rest x digit = ap (λ b. cond b (x ∷ front_of ds rest) []) digit

front_is : (ds p rest : List ℕ) (x : ℕ) → no_digits ds p ≡ true → is_none (digit_of ds x) ≡ false → front_of ds (p ++ x ∷ rest) ≡ p
unfolding front_of
front_is ds [] rest x clear digit = front_stops ds rest x digit
front_is ds (c ∷ cs) rest x clear digit =
    let parts = and_parts (is_none (digit_of ds c)) (no_digits ds cs) clear in
    ap (λ b. cond b (c ∷ front_of ds (cs ++ x ∷ rest)) []) parts.0 ∙ ap (λ t. c ∷ t) (front_is ds cs rest x parts.1 digit)

-- what is before the first digit of a decimal's text is its prefix
pub front_again : (t : Tables) (v : SignedValue Number) → AreTables t → is_readable_by t ≡ true → IsNumber v.absolute → front_of t.digits (plain_chars t v) ≡ chars (prefix_for t v.sign)
front_again t v are readable is =
    let start = digit_first t v.absolute are readable is in
    ap (λ cs. front_of t.digits (chars (prefix_for t v.sign) ++ (cs ++ chars (suffix_for t v.sign)))) start.same
    ∙ front_is t.digits (chars (prefix_for t v.sign)) (start.rest ++ chars (suffix_for t v.sign)) start.first (prefix_clear t v.sign readable) start.digit

same_absolute : (t : Tables) (a b : SignedValue Number) → AreTables t → is_readable_by t ≡ true → IsDecimal a → IsDecimal b → plain_chars t a ≡ plain_chars t b → a.absolute ≡ b.absolute
same_absolute t a b are readable one other same =
    let sep : List ℕ = chars t.symbols.strings.decimal_separator in
    let whole : map character (whole_digits a.absolute) ≡ map character (whole_digits b.absolute) = sym (whole_again t a are readable one) ∙ ap (whole_in t.digits sep) same ∙ whole_again t b are readable other in
    let fraction : map character (fraction_digits a.absolute) ≡ map character (fraction_digits b.absolute) = sym (fraction_again t a are readable one) ∙ ap (fraction_in t.digits sep) same ∙ fraction_again t b are readable other in
    ap (λ (v : SignedValue Number). v.absolute) (signed_reads_once (map character (whole_digits a.absolute) ++ after_point (map character (fraction_digits a.absolute))) (with_sign NoSign a.absolute) (with_sign NoSign b.absolute)
    (number_again a.absolute (map character (whole_digits a.absolute)) (map character (fraction_digits a.absolute)) one refl refl)
    (number_again b.absolute (map character (whole_digits a.absolute)) (map character (fraction_digits a.absolute)) other whole fraction))

same_sign : (t : Tables) (a b : SignedValue Number) → AreTables t → is_readable_by t ≡ true → IsDecimal a → IsDecimal b → plain_chars t a ≡ plain_chars t b → a.absolute ≡ b.absolute → a.sign ≡ b.sign
same_sign t a b are readable one other same absolute =
    let before : chars (prefix_for t a.sign) ≡ chars (prefix_for t b.sign) = sym (front_again t a are readable one) ∙ ap (front_of t.digits) same ∙ front_again t b are readable other in
    let rest : chars_of t a.absolute ++ chars (suffix_for t a.sign) ≡ chars_of t a.absolute ++ chars (suffix_for t b.sign) =
    append_cancel_left (chars (prefix_for t a.sign)) _ _ (same ∙ ap (λ p. p ++ (chars_of t b.absolute ++ chars (suffix_for t b.sign))) (sym before) ∙ ap (λ n. chars (prefix_for t a.sign) ++ (chars_of t n ++ chars (suffix_for t b.sign))) (sym absolute)) in
    let behind : chars (suffix_for t a.sign) ≡ chars (suffix_for t b.sign) = append_cancel_left (chars_of t a.absolute) _ _ rest in
    signs_tell t a.sign b.sign readable (same_chars (prefix_for t a.sign) (prefix_for t b.sign) (prefix_utf8 t a.sign are) (prefix_utf8 t b.sign are) before)
    (same_chars (suffix_for t a.sign) (suffix_for t b.sign) (suffix_utf8 t a.sign are) (suffix_utf8 t b.sign are) behind)

-- No two decimals share a text.
pub one_decimal : TextsHaveOneDecimal
one_decimal t a b are readable one other same =
    let texts : plain_chars t a ≡ plain_chars t b =
    encodes_same (plain_chars t a) (plain_chars t b) (sym (encoded_decimal t a are (whole_some a.absolute one)) ∙ same ∙ encoded_decimal t b are (whole_some b.absolute other)) in
    let absolute = same_absolute t a b are readable one other texts in
    same_signed a b (same_sign t a b are readable one other texts absolute) absolute

-- ---- a decimal's text reads as the decimal

-- the number under another sign has another text
other_sign : (t : Tables) (text : List ℕ) (v : SignedValue Number) (sign : Sign) → AreTables t → is_readable_by t ≡ true → IsPlainText t text v → (sign ≡ v.sign → ⊥) → false ≡ is_text_of t text (with_sign sign v.absolute)
other_sign t text v sign are readable plain other =
    sym (false_from_ne_true (is_text_of t text (with_sign sign v.absolute)) (λ writes.
    let same : decimal_text t (with_sign sign v.absolute) ≡ decimal_text t v = (bytes_decides (decimal_text t (with_sign sign v.absolute)) text).0 writes ∙ sym plain.written in
    other (ap (λ (d : SignedValue Number). d.sign) (one_decimal t (with_sign sign v.absolute) v are readable plain.decimal plain.decimal same))))

own_sign : (t : Tables) (text : List ℕ) (v : SignedValue Number) → IsPlainText t text v → true ≡ is_text_of t text (with_sign v.sign v.absolute)
own_sign t text v plain = sym ((bytes_decides (decimal_text t v) text).1 plain.written)

none_minus : NoSign ≡ Negative → ⊥
none_minus e = false≢true (ap is_minus e)
  where
    is_minus : Sign → Bool
    is_minus NoSign = false
    is_minus Negative = true
    is_minus Positive = false

none_plus : NoSign ≡ Positive → ⊥
none_plus e = false≢true (ap is_plus e)
  where
    is_plus : Sign → Bool
    is_plus NoSign = false
    is_plus Negative = false
    is_plus Positive = true

minus_plus : Negative ≡ Positive → ⊥
minus_plus e = false≢true (ap is_plus e)
  where
    is_plus : Sign → Bool
    is_plus NoSign = false
    is_plus Negative = false
    is_plus Positive = true

signed_again : (t : Tables) (text : List ℕ) (sign : Sign) (n : Number) → AreTables t → is_readable_by t ≡ true → IsPlainText t text (with_sign sign n) → signed_reading t text n ≡ decimal (with_sign sign n)
signed_again t text NoSign n are readable plain = first_sign t text n (own_sign t text (with_sign NoSign n) plain)
signed_again t text Negative n are readable plain =
    second_sign t text n (other_sign t text (with_sign Negative n) NoSign are readable plain none_minus) (own_sign t text (with_sign Negative n) plain)
signed_again t text Positive n are readable plain =
    third_sign t text n (other_sign t text (with_sign Positive n) NoSign are readable plain none_plus) (other_sign t text (with_sign Positive n) Negative are readable plain minus_plus)
    (own_sign t text (with_sign Positive n) plain)

pub plain_again : (t : Tables) (text : List ℕ) (v : SignedValue Number) → AreTables t → is_readable_by t ≡ true → IsUtf8 text → IsPlainText t text v → plain_reading t text ≡ decimal v
plain_again t text v are readable utf8 plain =
    let sep : List ℕ = chars t.symbols.strings.decimal_separator in
    let cs : plain_chars t v ≡ chars text = chars_from_encodes (plain_chars t v) text utf8 (sym (encoded_decimal t v are (whole_some v.absolute plain.decimal)) ∙ plain.written) in
    let whole : whole_of t text ≡ map character (whole_digits v.absolute) = ap (whole_in t.digits sep) (sym cs) ∙ whole_again t v are readable plain.decimal in
    let fraction : fraction_of t text ≡ map character (fraction_digits v.absolute) = ap (fraction_in t.digits sep) (sym cs) ∙ fraction_again t v are readable plain.decimal in
    let some : 0 < length (whole_of t text) = let digits = whole_some v.absolute plain.decimal in omega (arith, digits, ap length whole, length-map (whole_digits v.absolute) character) in
    let first : AreDigits (whole_of t text) = whole_digits_are t.digits sep (chars text) are.ten in
    let second : AreDigits (fraction_of t text) = fraction_digits_are t.digits sep (chars text) are.ten in
    let reads : ReadsSigned (whole_of t text ++ after_point (fraction_of t text)) (with_sign NoSign v.absolute) = number_again v.absolute (whole_of t text) (fraction_of t text) plain.decimal whole fraction in
    let number : v.absolute ≡ number_with (whole_of t text) (fraction_of t text) = ap (λ (d : SignedValue Number). d.absolute) (number_read (whole_of t text) (fraction_of t text) (with_sign NoSign v.absolute) first second some reads) in
    reading_signed t text readable (within_read (whole_of t text) (fraction_of t text) (with_sign NoSign v.absolute) first second some reads)
    ∙ ap (signed_reading t text) (sym number) ∙ signed_again t text v.sign v.absolute are readable plain

-- a number that is written so is the answer, however it was found
pub likely_reading : (t : Tables) (text : List ℕ) (v : SignedValue Number) → AreTables t → is_readable_by t ≡ true → IsUtf8 text → IsDecimal v → true ≡ is_text_of t text v → plain_reading t text ≡ decimal v
likely_reading t text v are readable utf8 is writes =
    plain_again t text v are readable utf8 (record { decimal = is; written = (bytes_decides (decimal_text t v) text).0 (sym writes) })

-- ---- what the function answers

is_decimal : PlainReading → Bool
is_decimal unreadable = false
is_decimal not_written = false
is_decimal (decimal v) = true

is_unreadable : PlainReading → Bool
is_unreadable unreadable = true
is_unreadable not_written = false
is_unreadable (decimal v) = false

decimal_in : SignedValue Number → PlainReading → SignedValue Number
decimal_in other unreadable = other
decimal_in other not_written = other
decimal_in other (decimal v) = v

same_decimal : (a b : SignedValue Number) → decimal a ≡ decimal b → a ≡ b
unfolding decimal_in
same_decimal a b e = ap (decimal_in a) e

no_decimal : (r : PlainReading) (v : SignedValue Number) → is_decimal r ≡ false → r ≡ decimal v → ⊥
unfolding is_decimal
no_decimal r v not_one e = false≢true (sym not_one ∙ ap is_decimal e)

-- a decimal that the steps answer has the text, and the number given
pub record IsFound (t : Tables) (text : List ℕ) (n : Number) (v : SignedValue Number) : Type 0 where
  pub absolute : v.absolute ≡ n
  pub written : decimal_text t v ≡ text

found_with : (t : Tables) (text : List ℕ) (sign : Sign) (n : Number) (v : SignedValue Number) → is_text_of t text (with_sign sign n) ≡ true → decimal (with_sign sign n) ≡ decimal v → IsFound t text n v
found_with t text sign n v writes e =
    let same : with_sign sign n ≡ v = same_decimal (with_sign sign n) v e in
    record {
      absolute = sym (ap (λ (d : SignedValue Number). d.absolute) same);
      written = ap (decimal_text t) (sym same) ∙ (bytes_decides (decimal_text t (with_sign sign n)) text).0 writes;
    }

found_by : (t : Tables) (text : List ℕ) (n : Number) (v : SignedValue Number) (a b c : Bool) → is_text_of t text (with_sign NoSign n) ≡ a → is_text_of t text (with_sign Negative n) ≡ b → is_text_of t text (with_sign Positive n) ≡ c → signed_reading t text n ≡ decimal v → IsFound t text n v
unfolding is_decimal
found_by t text n v true b c first second third e = found_with t text NoSign n v first (sym (first_sign t text n (sym first)) ∙ e)
found_by t text n v false true c first second third e = found_with t text Negative n v second (sym (second_sign t text n (sym first) (sym second)) ∙ e)
found_by t text n v false false true first second third e = found_with t text Positive n v third (sym (third_sign t text n (sym first) (sym second) (sym third)) ∙ e)
found_by t text n v false false false first second third e = absurd (no_decimal not_written v refl (sym (no_sign_fits t text n (sym first) (sym second) (sym third)) ∙ e))

-- what is after an answer that is a decimal
pub record IsAnswer (t : Tables) (text : List ℕ) (v : SignedValue Number) : Type 0 where
  pub readable : is_readable_by t ≡ true
  pub within : is_within (whole_of t text) (fraction_of t text) ≡ true
  pub found : IsFound t text (number_with (whole_of t text) (fraction_of t text)) v

answer_by : (t : Tables) (text : List ℕ) (v : SignedValue Number) (a b : Bool) → is_readable_by t ≡ a → is_within (whole_of t text) (fraction_of t text) ≡ b → plain_reading t text ≡ decimal v → IsAnswer t text v
unfolding is_decimal
answer_by t text v false b readable within e = absurd (no_decimal unreadable v refl (sym (reading_unreadable t text readable) ∙ e))
answer_by t text v true false readable within e = absurd (no_decimal not_written v refl (sym (reading_past t text readable within) ∙ e))
answer_by t text v true true readable within e = record {
  readable = readable;
  within = within;
  found = found_by t text (number_with (whole_of t text) (fraction_of t text)) v _ _ _ refl refl refl (sym (reading_signed t text readable within) ∙ e);
}

pub answer_is : (t : Tables) (text : List ℕ) (v : SignedValue Number) → plain_reading t text ≡ decimal v → IsAnswer t text v
answer_is t text v e = answer_by t text v (is_readable_by t) (is_within (whole_of t text) (fraction_of t text)) refl refl e

-- a decimal that is answered has the text
pub plain_found : (t : Tables) (text : List ℕ) (v : SignedValue Number) → AreTables t → plain_reading t text ≡ decimal v → IsPlainText t text v
plain_found t text v are e =
    let answer = answer_is t text v e in
    let sep : List ℕ = chars t.symbols.strings.decimal_separator in
    record {
      decimal = subst IsNumber (sym answer.found.absolute) (is_number (whole_of t text) (fraction_of t text) (whole_digits_are t.digits sep (chars text) are.ten) (fraction_digits_are t.digits sep (chars text) are.ten) answer.within);
      written = answer.found.written;
    }

pub written_again : ReadIsWrittenAgain
written_again t text v e = (answer_is t text v e).found.written

pub reads_back : WrittenReadsBack
reads_back t v are readable is = plain_again t (decimal_text t v) v are readable (decimal_utf8 t v are is) (record { decimal = is; written = refl })

-- a text that no reading is of has no decimal
pub nothing_found : (t : Tables) (text : List ℕ) → AreTables t → is_readable_by t ≡ true → IsUtf8 text → plain_reading t text ≡ not_written → HasNoNumber t text
unfolding is_decimal
nothing_found t text are readable utf8 e v is same = no_decimal not_written v refl (sym e ∙ plain_again t text v are readable utf8 (record { decimal = is; written = same }))

-- whether it is UTF-8 or not, since the text of a decimal is
nothing_there : (t : Tables) (text : List ℕ) → AreTables t → is_readable_by t ≡ true → plain_reading t text ≡ not_written → HasNoNumber t text
nothing_there t text are readable e v is same = nothing_found t text are readable (subst IsUtf8 same (decimal_utf8 t v are is)) e v is same

signed_readable : (t : Tables) (text : List ℕ) (n : Number) (a b c : Bool) → is_text_of t text (with_sign NoSign n) ≡ a → is_text_of t text (with_sign Negative n) ≡ b → is_text_of t text (with_sign Positive n) ≡ c → is_unreadable (signed_reading t text n) ≡ false
unfolding is_unreadable
signed_readable t text n true b c first second third = ap is_unreadable (first_sign t text n (sym first))
signed_readable t text n false true c first second third = ap is_unreadable (second_sign t text n (sym first) (sym second))
signed_readable t text n false false true first second third = ap is_unreadable (third_sign t text n (sym first) (sym second) (sym third))
signed_readable t text n false false false first second third = ap is_unreadable (no_sign_fits t text n (sym first) (sym second) (sym third))

reading_readable : (t : Tables) (text : List ℕ) (b : Bool) → is_readable_by t ≡ true → is_within (whole_of t text) (fraction_of t text) ≡ b → is_unreadable (plain_reading t text) ≡ false
unfolding is_unreadable
reading_readable t text false readable within = ap is_unreadable (reading_past t text readable within)
reading_readable t text true readable within = ap is_unreadable (reading_signed t text readable within) ∙ signed_readable t text (number_with (whole_of t text) (fraction_of t text)) _ _ _ refl refl refl

-- only unreadable tables are answered so
pub unreadable_is : (t : Tables) (text : List ℕ) → plain_reading t text ≡ unreadable → is_readable_by t ≡ false
unfolding is_unreadable
unreadable_is t text e =
    false_from_ne_true (is_readable_by t) (λ readable. false≢true (sym (reading_readable t text (is_within (whole_of t text) (fraction_of t text)) readable refl) ∙ ap is_unreadable e))

not_written_is : (t : Tables) (text : List ℕ) (b : Bool) → is_readable_by t ≡ b → plain_reading t text ≡ not_written → is_readable_by t ≡ true
unfolding is_unreadable
not_written_is t text true is e = is
not_written_is t text false is e = absurd (false≢true (sym (ap is_unreadable e) ∙ ap is_unreadable (reading_unreadable t text is)))

is_reading_from : (t : Tables) (text : List ℕ) (r : PlainReading) → AreTables t → plain_reading t text ≡ r → IsReading t text r
is_reading_from t text unreadable are e = unreadable_is t text e
is_reading_from t text not_written are e = let readable = not_written_is t text (is_readable_by t) refl e in (readable, nothing_there t text are readable e)
is_reading_from t text (decimal v) are e = ((answer_is t text v e).readable, plain_found t text v are e)

missing_by : (t : Tables) (text : List ℕ) (r : PlainReading) → AreTables t → is_readable_by t ≡ true → HasNoNumber t text → plain_reading t text ≡ r → not_written ≡ r
missing_by t text unreadable are readable none e = absurd (false≢true (sym (unreadable_is t text e) ∙ readable))
missing_by t text not_written are readable none e = refl
missing_by t text (decimal v) are readable none e = let plain = plain_found t text v are e in absurd (none v plain.decimal plain.written)

reading_is : (t : Tables) (text : List ℕ) (r : PlainReading) → AreTables t → IsReading t text r → r ≡ plain_reading t text
reading_is t text unreadable are is = sym (reading_unreadable t text is)
reading_is t text not_written are is = missing_by t text (plain_reading t text) are is.0 is.1 refl
reading_is t text (decimal v) are is =
    let plain = is.1 in sym (plain_again t text v are is.0 (subst IsUtf8 plain.written (decimal_utf8 t v are plain.decimal)) plain)

pub one_reading : HasOneReading
one_reading t text r are = (λ is. reading_is t text r are is, λ e. is_reading_from t text r are (sym e))

pub auto_is_always : AutoIsAlways
auto_is_always t text = refl

-- ---- what a call answers

is_missing : Result (SignedValue Number) ReadError → Bool
is_missing (Ok v) = false
is_missing (Err Unreadable) = false
is_missing (Err NotWritten) = true
is_missing (Err Memory) = false

pub answered_value : (t : Tables) (text : List ℕ) (r : Result (SignedValue Number) ReadError) → AreTables t → IsAnswered r (plain_reading t text) → IfOk r (λ v. IsPlainText t text v)
answered_value t text (Ok v) are answered = plain_found t text v are answered
answered_value t text (Err e) are answered = tt

pub answered_not_written : (t : Tables) (text : List ℕ) (r : Result (SignedValue Number) ReadError) → AreTables t → IsUtf8 text → IsAnswered r (plain_reading t text) → IsErrOf r NotWritten → HasNoNumber t text
unfolding is_missing
answered_not_written t text (Ok v) are utf8 answered is = absurd (false≢true (ap is_missing is))
answered_not_written t text (Err Unreadable) are utf8 answered is = absurd (false≢true (ap is_missing is))
answered_not_written t text (Err Memory) are utf8 answered is = absurd (false≢true (ap is_missing is))
answered_not_written t text (Err NotWritten) are utf8 answered is =
    let readable = not_written_is t text (is_readable_by t) refl answered in nothing_found t text are readable utf8 answered
