-- Where it is readable, a text has one scientific number: by cuts of its characters.
use Rattle.std.proofs.Common.{◌≡◌, ◌==◌, ℕ, ℤ, pos, negsuc, ◌+◌, ◌-◌, ◌^◌, ◌<◌, Bool, true, false, cond, not, ◌&&◌, List, [], ◌∷◌, ◌++◌, length, slice_index, is_none, refl, sym, ap, subst, ◌∙◌, arith}
use Rattle.std.proofs.lemmas.Bool.{and_from, and_parts, both_ways, false≢true, ne_eqb, not-true}
use Rattle.std.proofs.lemmas.List.{append-nil, append_cancel_left, append_cancel_right}
use Rattle.std.proofs.lemmas.List.Folds.{list_all-append}
use Rattle.std.proofs.lemmas.Str.{chars-nil, encodes-append, encodes-chars, encodes_same}
use Rattle.std.specs.Cmp.Lexicographic.{bytes_decides}
use Rattle.std.specs.Int.Digits.{AllBelowBase}
use Rattle.std.specs.List.{list_all}
use Rattle.std.specs.Str.{bytes_eq, chars, encode_utf8_all}
use Rattle.fixed_decimal.specs.Number.{IsNumber, Number, fraction_digits, whole_digits}
use Rattle.fixed_decimal.specs.ScientificText.{IsScientific, ScientificValue}
use Rattle.fixed_decimal.specs.SignedValue.{SignedValue}
use Rattle.fixed_decimal.specs.WholeNumbers.{size_of}
use Rattle.fixed_decimal.specs.declared.Sign.{Sign}
use Rattle.fixed_decimal.specs.declared.Sign.TheVariants.{None as NoSign, Negative, Positive}
use Rattle.fixed_decimal.proofs.TenLemmas.{tens_positive}
use Rattle.icu_decimal_plain.specs.Grouper.{marked}
use Rattle.icu_decimal_plain.specs.PlainText.{Tables, decimal_text, unsigned_text}
use Rattle.icu_decimal_plain.proofs.PlainTextLemmas.{tens_down}
use Rattle.icu_decimal_reading.specs.Readable.{digit_of, is_readable_by}
use Rattle.icu_decimal_reading.specs.ReadingLaws.{AreTables}
use Rattle.icu_decimal_reading.proofs.LawLemmas.{one_decimal}
use Rattle.icu_decimal_reading.proofs.PlainLemmas.{chars_of, digit_first, encoded_decimal, ends_of, marks_of, plain_chars, prefix_clear, prefix_for, prefix_utf8, same_chars, suffix_for, suffix_utf8, whole_some}
use Rattle.icu_decimal_reading.proofs.ScanLemmas.{AreMarks, found, fraction_chars, spelled_by}
use Rattle.icu_decimal_scientific.specs.ScientificReading.{AreScientificTexts, begins_apart, do_prefixes_differ, is_scientific_readable_by, lacks, not_written, scientific, unreadable}
use Rattle.icu_decimal_scientific.specs.ExponentialText.{ScientificSettings, exponential_text, scientific_text}
use Rattle.icu_decimal_scientific.specs.ScientificTextLaws.{HasOneScientificReading, ReadIsWrittenAgain, TextsHaveOneNumber, TextsHaveOneValue, WrittenIsReadBack}
use Rattle.icu_decimal_scientific.specs.ReadingSteps.{lacks_first}
use Rattle.icu_decimal_scientific.specs.ShownNumbers.{IsShownExponent, exponent_sign}
use Rattle.icu_decimal_scientific.specs.declared.shown.ExponentOptions.{ExponentOptions}
use Rattle.icu_decimal_scientific.specs.declared.shown.ExponentSign.{ExponentSign}
use Rattle.icu_decimal_scientific.specs.declared.shown.ExponentSign.TheVariants.{Auto, Always}
use Rattle.icu_decimal_scientific.proofs.CutLemmas.{Stops, at_mark, one_cut}
use Rattle.icu_decimal_scientific.proofs.PowerLemmas.{cancel_same}

-- ---- the tests, one by one

pub record Tests (s : ScientificSettings) : Type 0 where
  pub tables : is_readable_by s.tables ≡ true
  pub exponents : is_readable_by s.exponents ≡ true
  pub apart : begins_apart s.tables (chars s.separator) ≡ true
  pub prefixes : do_prefixes_differ s.tables.symbols.strings ≡ true

pub tests_of : (s : ScientificSettings) → is_scientific_readable_by s ≡ true → Tests s
tests_of s readable =
    let first = and_parts (is_readable_by s.tables) _ readable in
    let second = and_parts (is_readable_by s.exponents) _ first.1 in
    let third = and_parts (begins_apart s.tables (chars s.separator)) (do_prefixes_differ s.tables.symbols.strings) second.1 in
    record { tables = first.0; exponents = second.0; apart = third.0; prefixes = third.1 }

-- ---- a character that is in no number without a sign

-- no digit, and in neither separator
record IsOutside (t : Tables) (c : ℕ) : Type 0 where
  pub digit : is_none (digit_of t.digits c) ≡ true
  pub point : lacks c t.symbols.strings.decimal_separator ≡ true
  pub group : lacks c t.symbols.strings.grouping_separator ≡ true

outside : (t : Tables) (c : ℕ) (cs : List ℕ) → begins_apart t (c ∷ cs) ≡ true → IsOutside t c
outside t c cs apart =
    let first = and_parts (is_none (digit_of t.digits c)) _ apart in
    let second = and_parts (lacks c t.symbols.strings.decimal_separator) (lacks c t.symbols.strings.grouping_separator) first.1 in
    record { digit = first.0; point = second.0; group = second.1 }

abbrev other_than : ℕ → ℕ → Bool
other_than c d = not (d == c)

module _ (ds sep group : List ℕ) (c : ℕ) (marks : AreMarks ds sep group) (digit : is_none (digit_of ds c) ≡ true) where
  other_digit : (v : ℕ) → v < 10 → not (slice_index ds v == c) ≡ true
  other_digit v ten = ap not (ne_eqb (slice_index ds v) c (λ same. false≢true (sym (ap is_none (found ds sep group v marks ten)) ∙ ap (λ d. is_none (digit_of ds d)) same ∙ digit)))

  other_digits : (vs : List ℕ) → AllBelowBase 10 vs → list_all (λ d. not (d == c)) (spelled_by ds vs) ≡ true
  other_digits [] tens = refl
  other_digits (v ∷ vs) tens = and_from (not (slice_index ds v == c)) (list_all (λ d. not (d == c)) (spelled_by ds vs)) (other_digit v tens.0) (other_digits vs tens.1)

joined_others : (c : ℕ) (xs ys : List ℕ) → list_all (λ d. not (d == c)) xs ≡ true → list_all (λ d. not (d == c)) ys ≡ true → list_all (λ d. not (d == c)) (xs ++ ys) ≡ true
joined_others c xs ys first second =
    list_all-append (λ d. not (d == c)) xs ys ∙ and_from (list_all (λ d. not (d == c)) xs) (list_all (λ d. not (d == c)) ys) first second

other_gap : (c : ℕ) (b : Bool) (group : List ℕ) → list_all (λ d. not (d == c)) group ≡ true → list_all (λ d. not (d == c)) (cond b group []) ≡ true
other_gap c true group clear = clear
other_gap c false group clear = refl

other_marked : (c : ℕ) (ends : ℕ → Bool) (group cs : List ℕ) → list_all (λ d. not (d == c)) group ≡ true → list_all (λ d. not (d == c)) cs ≡ true → list_all (λ d. not (d == c)) (marked ends group cs) ≡ true
other_marked c ends group [] clear all = refl
other_marked c ends group (x ∷ xs) clear all =
    let parts = and_parts (not (x == c)) (list_all (λ d. not (d == c)) xs) all in
    and_from (not (x == c)) _ parts.0 (joined_others c (cond (ends (length xs)) group []) (marked ends group xs) (other_gap c (ends (length xs)) group clear) (other_marked c ends group xs clear parts.1))

other_fraction : (c : ℕ) (ds sep vs : List ℕ) → list_all (λ d. not (d == c)) sep ≡ true → list_all (λ d. not (d == c)) (spelled_by ds vs) ≡ true → list_all (λ d. not (d == c)) (fraction_chars ds sep vs) ≡ true
other_fraction c ds sep [] clear all = refl
other_fraction c ds sep (v ∷ vs) clear all = joined_others c sep (spelled_by ds (v ∷ vs)) clear all

pub not_in_number : (t : Tables) (n : Number) (c : ℕ) (cs : List ℕ) → AreTables t → is_readable_by t ≡ true → begins_apart t (c ∷ cs) ≡ true → list_all (λ d. not (d == c)) (chars_of t n) ≡ true
not_in_number t n c cs are readable apart =
    let sep : List ℕ = chars t.symbols.strings.decimal_separator in
    let group : List ℕ = chars t.symbols.strings.grouping_separator in
    let out : IsOutside t c = outside t c cs apart in
    let marks : AreMarks t.digits sep group = marks_of t are readable in
    joined_others c (marked (ends_of t (whole_digits n)) group (spelled_by t.digits (whole_digits n))) (fraction_chars t.digits sep (fraction_digits n))
    (other_marked c (ends_of t (whole_digits n)) group (spelled_by t.digits (whole_digits n)) out.group (other_digits t.digits sep group c marks out.digit (whole_digits n) (tens_down n.count 32768 (n.high - 32767))))
    (other_fraction c t.digits sep (fraction_digits n) out.point (other_digits t.digits sep group c marks out.digit (fraction_digits n) (tens_down n.count n.low (32768 - n.low))))

pub lacks_number : (t : Tables) (n : Number) (sep : List ℕ) → AreTables t → is_readable_by t ≡ true → begins_apart t sep ≡ true → lacks_first sep (chars_of t n) ≡ true
lacks_number t n [] are readable apart = absurd (false≢true apart)
lacks_number t n (c ∷ cs) are readable apart = not_in_number t n c cs are readable apart

-- ---- the text as characters

both_encoded : (a b xs ys : List ℕ) → a ≡ encode_utf8_all xs → b ≡ encode_utf8_all ys → a ++ b ≡ encode_utf8_all (xs ++ ys)
both_encoded a b xs ys first second = ap (λ l. l ++ b) first ∙ ap (λ l. encode_utf8_all xs ++ l) second ∙ sym (encodes-append xs ys)

abbrev no_sign : Number → SignedValue Number
no_sign n = record { sign = NoSign; absolute = n }

pub plain_unsigned : (t : Tables) (n : Number) → decimal_text t (record { sign = NoSign; absolute = n }) ≡ unsigned_text t n
plain_unsigned t n = append-nil (unsigned_text t n)

pub unsigned_encoded : (t : Tables) (n : Number) → AreTables t → IsNumber n → unsigned_text t n ≡ encode_utf8_all (chars_of t n)
unsigned_encoded t n are is =
    sym (plain_unsigned t n) ∙ encoded_decimal t (no_sign n) are (whole_some n is)
    ∙ ap encode_utf8_all (ap (λ cs. cs ++ (chars_of t n ++ cs)) chars-nil ∙ append-nil (chars_of t n))

-- without the sign of the significand
abbrev pub exponential_chars : ScientificSettings → ScientificValue → List ℕ
exponential_chars s v = chars_of s.tables v.significand.absolute ++ (chars s.separator ++ plain_chars s.exponents v.exponent)

abbrev sign_chars : ScientificSettings → ScientificValue → List ℕ
sign_chars s v =
    chars (prefix_for s.tables v.significand.sign) ++ (exponential_chars s v ++ chars (suffix_for s.tables v.significand.sign))

encoded_text : (s : ScientificSettings) (v : ScientificValue) → AreScientificTexts s → IsScientific v → scientific_text s v ≡ encode_utf8_all (sign_chars s v)
encoded_text s v are is =
    let prefix : List ℕ = prefix_for s.tables v.significand.sign in
    let suffix : List ℕ = suffix_for s.tables v.significand.sign in
    let n : Number = v.significand.absolute in
    let separated : s.separator ++ decimal_text s.exponents v.exponent ≡ encode_utf8_all (chars s.separator ++ plain_chars s.exponents v.exponent) =
    both_encoded s.separator (decimal_text s.exponents v.exponent) (chars s.separator) (plain_chars s.exponents v.exponent) (sym (encodes-chars s.separator are.separator)) (encoded_decimal s.exponents v.exponent are.exponents (whole_some v.exponent.absolute is.exponent)) in
    let inner : exponential_text s n v.exponent ≡ encode_utf8_all (exponential_chars s v) =
    both_encoded (unsigned_text s.tables n) (s.separator ++ decimal_text s.exponents v.exponent) (chars_of s.tables n) (chars s.separator ++ plain_chars s.exponents v.exponent) (unsigned_encoded s.tables n are.tables is.significand) separated in
    both_encoded prefix (exponential_text s n v.exponent ++ suffix) (chars prefix) (exponential_chars s v ++ chars suffix) (sym (encodes-chars prefix (prefix_utf8 s.tables v.significand.sign are.tables)))
    (both_encoded (exponential_text s n v.exponent) suffix (exponential_chars s v) (chars suffix) inner (sym (encodes-chars suffix (suffix_utf8 s.tables v.significand.sign are.tables))))

-- ---- the sign, by what is before the first digit

other_texts : (a b : List ℕ) → not (bytes_eq a b) ≡ true → a ≡ b → ⊥
other_texts a b other same = both_ways (bytes_eq a b) (not-true (bytes_eq a b) other) ((bytes_decides a b).1 same)

prefixes_tell : (t : Tables) (x y : Sign) → do_prefixes_differ t.symbols.strings ≡ true → prefix_for t x ≡ prefix_for t y → x ≡ y
prefixes_tell t x y differ = by x y
  where
    first : (not (bytes_eq t.symbols.strings.minus_sign_prefix []) ≡ true) × ((not (bytes_eq t.symbols.strings.plus_sign_prefix []) && not (bytes_eq t.symbols.strings.minus_sign_prefix t.symbols.strings.plus_sign_prefix)) ≡ true)
    first = and_parts (not (bytes_eq t.symbols.strings.minus_sign_prefix [])) _ differ

    second : (not (bytes_eq t.symbols.strings.plus_sign_prefix []) ≡ true) × (not (bytes_eq t.symbols.strings.minus_sign_prefix t.symbols.strings.plus_sign_prefix) ≡ true)
    second = and_parts (not (bytes_eq t.symbols.strings.plus_sign_prefix [])) _ first.1

    some_minus : t.symbols.strings.minus_sign_prefix ≡ [] → ⊥
    some_minus = other_texts t.symbols.strings.minus_sign_prefix [] first.0

    some_plus : t.symbols.strings.plus_sign_prefix ≡ [] → ⊥
    some_plus = other_texts t.symbols.strings.plus_sign_prefix [] second.0

    apart : t.symbols.strings.minus_sign_prefix ≡ t.symbols.strings.plus_sign_prefix → ⊥
    apart = other_texts t.symbols.strings.minus_sign_prefix t.symbols.strings.plus_sign_prefix second.1

    by : (x y : Sign) → prefix_for t x ≡ prefix_for t y → x ≡ y
    by NoSign NoSign same = refl
    by NoSign Negative same = absurd (some_minus (sym same))
    by NoSign Positive same = absurd (some_plus (sym same))
    by Negative NoSign same = absurd (some_minus same)
    by Negative Negative same = refl
    by Negative Positive same = absurd (apart same)
    by Positive NoSign same = absurd (some_plus same)
    by Positive Negative same = absurd (apart (sym same))
    by Positive Positive same = refl

-- a number, and what is after it, begins with a digit
at_digit : (t : Tables) (n : Number) (rest suffix : List ℕ) → AreTables t → is_readable_by t ≡ true → IsNumber n → Stops (λ c. is_none (digit_of t.digits c)) ((chars_of t n ++ rest) ++ suffix)
at_digit t n rest suffix are readable is =
    let start = digit_first t n are readable is in
    record {
      first = start.first;
      rest = (start.rest ++ rest) ++ suffix;
      same = ap (λ cs. (cs ++ rest) ++ suffix) start.same;
      fails = start.digit;
    }

-- ---- one number

-- what is before the separator, and what is after it
record SameSides (t : Tables) (n m : Number) (xs ys : List ℕ) : Type 0 where
  pub fronts : chars_of t n ≡ chars_of t m
  pub backs : xs ≡ ys

same_sides : (t : Tables) (sep xs ys : List ℕ) (n m : Number) → AreTables t → is_readable_by t ≡ true → begins_apart t sep ≡ true → chars_of t n ++ (sep ++ xs) ≡ chars_of t m ++ (sep ++ ys) → SameSides t n m xs ys
same_sides t [] xs ys n m are readable apart same = absurd (false≢true apart)
same_sides t (c ∷ cs) xs ys n m are readable apart same =
    let cut : (chars_of t n ≡ chars_of t m) × ((c ∷ cs) ++ xs ≡ (c ∷ cs) ++ ys) =
    one_cut (λ d. not (d == c)) (chars_of t n) ((c ∷ cs) ++ xs) (chars_of t m) ((c ∷ cs) ++ ys) (not_in_number t n c cs are readable apart) (not_in_number t m c cs are readable apart) (at_mark c (cs ++ xs)) (at_mark c (cs ++ ys)) same in
    record { fronts = cut.0; backs = append_cancel_left (c ∷ cs) xs ys cut.1 }

same_number : (t : Tables) (n m : Number) → AreTables t → is_readable_by t ≡ true → IsNumber n → IsNumber m → chars_of t n ≡ chars_of t m → n ≡ m
same_number t n m are readable one other same =
    let texts : unsigned_text t n ≡ unsigned_text t m = unsigned_encoded t n are one ∙ ap encode_utf8_all same ∙ sym (unsigned_encoded t m are other) in
    ap (λ (d : SignedValue Number). d.absolute) (one_decimal t (no_sign n) (no_sign m) are readable one other (plain_unsigned t n ∙ texts ∙ sym (plain_unsigned t m)))

same_exponent : (t : Tables) (x y : SignedValue Number) → AreTables t → is_readable_by t ≡ true → IsNumber x.absolute → IsNumber y.absolute → plain_chars t x ≡ plain_chars t y → x ≡ y
same_exponent t x y are readable one other same =
    one_decimal t x y are readable one other (encoded_decimal t x are (whole_some x.absolute one) ∙ ap encode_utf8_all same ∙ sym (encoded_decimal t y are (whole_some y.absolute other)))

pub one_value : TextsHaveOneValue
one_value s a b are readable one other same =
    let t : Tables = s.tables in
    let tests : Tests s = tests_of s readable in
    let out : ℕ → Bool = λ c. is_none (digit_of t.digits c) in
    let behind : ScientificValue → List ℕ = λ v. exponential_chars s v ++ chars (suffix_for t v.significand.sign) in
    let cs : sign_chars s a ≡ sign_chars s b = encodes_same (sign_chars s a) (sign_chars s b) (sym (encoded_text s a are one) ∙ same ∙ encoded_text s b are other) in
    let cut : (chars (prefix_for t a.significand.sign) ≡ chars (prefix_for t b.significand.sign)) × (behind a ≡ behind b) =
    one_cut out (chars (prefix_for t a.significand.sign)) (behind a) (chars (prefix_for t b.significand.sign)) (behind b) (prefix_clear t a.significand.sign tests.tables) (prefix_clear t b.significand.sign tests.tables)
    (at_digit t a.significand.absolute (chars s.separator ++ plain_chars s.exponents a.exponent) (chars (suffix_for t a.significand.sign)) are.tables tests.tables one.significand)
    (at_digit t b.significand.absolute (chars s.separator ++ plain_chars s.exponents b.exponent) (chars (suffix_for t b.significand.sign)) are.tables tests.tables other.significand) cs in
    let sign : a.significand.sign ≡ b.significand.sign = prefixes_tell t a.significand.sign b.significand.sign tests.prefixes
    (same_chars (prefix_for t a.significand.sign) (prefix_for t b.significand.sign) (prefix_utf8 t a.significand.sign are.tables) (prefix_utf8 t b.significand.sign are.tables) cut.0) in
    let inner : exponential_chars s a ≡ exponential_chars s b = append_cancel_right (exponential_chars s a) (exponential_chars s b) (chars (suffix_for t a.significand.sign)) (cut.1 ∙ ap (λ g. exponential_chars s b ++ chars (suffix_for t g)) (sym sign)) in
    let sides : SameSides t a.significand.absolute b.significand.absolute (plain_chars s.exponents a.exponent) (plain_chars s.exponents b.exponent) =
    same_sides t (chars s.separator) (plain_chars s.exponents a.exponent) (plain_chars s.exponents b.exponent) a.significand.absolute b.significand.absolute are.tables tests.tables tests.apart inner in
    let number : a.significand.absolute ≡ b.significand.absolute = same_number t a.significand.absolute b.significand.absolute are.tables tests.tables one.significand other.significand sides.fronts in
    let exponent : a.exponent ≡ b.exponent = same_exponent s.exponents a.exponent b.exponent are.exponents tests.exponents one.exponent other.exponent sides.backs in
    λ i. record { significand = record { sign = sign i; absolute = number i }; exponent = exponent i }

-- ---- one significand and one exponent, however they are shown

abbrev IsMinus : Sign → Type 0
IsMinus NoSign = ⊥
IsMinus Negative = Unit {0}
IsMinus Positive = ⊥

signs_apart : (sign : ExponentSign) (m n : ℕ) → exponent_sign sign (pos m) ≡ exponent_sign sign (negsuc n) → ⊥
signs_apart Auto m n same = subst IsMinus (sym same) tt
signs_apart Always m n same = subst IsMinus (sym same) tt

pub same_size : (o : ExponentOptions) (x y : ℤ) (v : SignedValue Number) → IsShownExponent o x v → IsShownExponent o y v → size_of x ≡ size_of y
same_size o x y v f g = cancel_same (size_of x) (size_of y) (10 ^ 32768) (tens_positive 32768) (sym f.count ∙ g.count)

pub same_shown : (o : ExponentOptions) (x y : ℤ) (v : SignedValue Number) → IsShownExponent o x v → IsShownExponent o y v → x ≡ y
same_shown o (pos m) (pos n) v f g = ap pos (same_size o (pos m) (pos n) v f g)
same_shown o (pos m) (negsuc n) v f g = absurd (signs_apart o.sign m n (sym f.sign ∙ g.sign))
same_shown o (negsuc m) (pos n) v f g = absurd (signs_apart o.sign n m (sym g.sign ∙ f.sign))
same_shown o (negsuc m) (negsuc n) v f g = ap negsuc (one_less (same_size o (negsuc m) (negsuc n) v f g))
  where
    one_less : m + 1 ≡ n + 1 → m ≡ n
    one_less same = omega (arith, same)

pub one_number_shown : TextsHaveOneNumber
one_number_shown s o a b v w are readable one other f g same =
    let value : v ≡ w = one_value s v w are readable one other same in
    let significand : a.significand ≡ b.significand = sym f.significand ∙ ap (λ (x : ScientificValue). x.significand) value ∙ g.significand in
    let exponent : a.exponent ≡ b.exponent = same_shown o a.exponent b.exponent v.exponent f.exponent (subst (λ (x : ScientificValue). IsShownExponent o b.exponent x.exponent) (sym value) g.exponent) in
    λ i. record { significand = significand i; exponent = exponent i }

-- ---- one reading

pub one_reading : HasOneScientificReading
one_reading s text unreadable unreadable are p q = refl
one_reading s text unreadable not_written are p q = absurd (both_ways (is_scientific_readable_by s) p q.0)
one_reading s text unreadable (scientific w) are p q = absurd (both_ways (is_scientific_readable_by s) p q.0)
one_reading s text not_written unreadable are p q = absurd (both_ways (is_scientific_readable_by s) q p.0)
one_reading s text not_written not_written are p q = refl
one_reading s text not_written (scientific w) are p q = absurd (p.1 w q.1.number q.1.written)
one_reading s text (scientific v) unreadable are p q = absurd (both_ways (is_scientific_readable_by s) q p.0)
one_reading s text (scientific v) not_written are p q = absurd (q.1 v p.1.number p.1.written)
one_reading s text (scientific v) (scientific w) are p q =
    ap scientific (one_value s v w are p.0 p.1.number q.1.number (p.1.written ∙ sym q.1.written))

pub written_is_read_back : WrittenIsReadBack
written_is_read_back s v reading are readable number reads =
    one_reading s (scientific_text s v) reading (scientific v) are reads (readable, record { number = number; written = refl })

pub read_is_written_again : ReadIsWrittenAgain
read_is_written_again s text v reads = reads.1.written
