-- The plain text of a decimal as characters: its digits, and nothing that is a digit between, before and after them.
use Rattle.std.proofs.Common.{◌≡◌, ℕ, zero, suc, ◌+◌, ◌-◌, ◌<◌, Bool, true, false, cond, not, ◌&&◌, List, [], ◌∷◌, ◌++◌, length, map, slice_index, is_none, refl, sym, ap, subst, ◌∙◌, arith}
use Rattle.std.proofs.lemmas.Bool.{and_parts, both_ways, ne_eqb, not-true, or_from}
use Rattle.std.proofs.lemmas.List.Sums.{sum_by-cons}
use Rattle.std.specs.List.{AllByRecursion, sum}
use Rattle.std.proofs.lemmas.List.{length-map}
use Rattle.std.proofs.lemmas.Str.{IsUtf8-append, IsUtf8-encode, IsUtf8-nil, chars-nil, encodes-append, encodes-chars}
use Rattle.std.specs.Char.{IsScalar}
use Rattle.std.specs.Cmp.Lexicographic.{bytes_decides}
use Rattle.std.specs.Int.Digits.{AllBelowBase}
use Rattle.std.specs.Str.{IsUtf8, bytes_eq, chars}
use lib.Utf8.{encodes}
use Rattle.fixed_decimal.specs.Number.{IsNumber, Number, digits_down, fraction_digits, whole_digits}
use Rattle.fixed_decimal.specs.NumberText.{character}
use Rattle.fixed_decimal.specs.SignedValue.{SignedValue}
use Rattle.fixed_decimal.specs.TextLaws.{IsDecimal}
use Rattle.fixed_decimal.specs.declared.Sign.{Sign}
use Rattle.fixed_decimal.specs.declared.Sign.TheVariants.{None as NoSign, Negative, Positive}
use Rattle.icu_decimal_symbols.specs.Symbols.{SymbolStrings}
use Rattle.icu_decimal_plain.specs.Affixes.{affixes_of}
use Rattle.icu_decimal_plain.specs.Grouper.{ends_at, group_sizes, marked}
use Rattle.icu_decimal_plain.specs.PlainText.{Tables, chained, decimal_text, digit_text, fraction_text, prefix_text, suffix_text, unsigned_text, whole_text}
use Rattle.icu_decimal_plain.proofs.GrouperLemmas.{AllAbove, are_sizes, joined_is_separated}
use Rattle.icu_decimal_plain.proofs.PlainTextLemmas.{tens_down}
use Rattle.icu_decimal_reading.specs.PlainReading.{fraction_in, whole_in}
use Rattle.icu_decimal_reading.specs.Readable.{all_differ, are_clear, digit_of, do_separators_differ, do_signs_differ, has_no_digit, is_readable_by}
use Rattle.icu_decimal_reading.specs.ReadingLaws.{AreTables}
use Rattle.icu_decimal_reading.proofs.ScanLemmas.{AreMarks, found, fraction_chars, fraction_of_text, no_digits, number_chars, spelled_by, whole_of_text}

-- ---- what readable tables are

-- the tests of readable tables, one by one
pub record IsSplit (t : Tables) : Type 0 where
  pub differ : all_differ t.digits ≡ true
  pub clear : are_clear t.digits t.symbols.strings ≡ true
  pub separators : do_separators_differ t.symbols.strings ≡ true
  pub signs : do_signs_differ t.symbols.strings ≡ true

pub tests_of : (t : Tables) → is_readable_by t ≡ true → IsSplit t
tests_of t readable =
    let s : SymbolStrings = t.symbols.strings in
    let first = and_parts (all_differ t.digits) (are_clear t.digits s && (do_separators_differ s && do_signs_differ s)) readable in
    let second = and_parts (are_clear t.digits s) (do_separators_differ s && do_signs_differ s) first.1 in
    let third = and_parts (do_separators_differ s) (do_signs_differ s) second.1 in
    record { differ = first.0; clear = second.0; separators = third.0; signs = third.1 }

-- no digit is in a symbol
pub record AreClear (ds : List ℕ) (s : SymbolStrings) : Type 0 where
  pub minus_prefix : has_no_digit ds s.minus_sign_prefix ≡ true
  pub minus_suffix : has_no_digit ds s.minus_sign_suffix ≡ true
  pub plus_prefix : has_no_digit ds s.plus_sign_prefix ≡ true
  pub plus_suffix : has_no_digit ds s.plus_sign_suffix ≡ true
  pub point : has_no_digit ds s.decimal_separator ≡ true
  pub group : has_no_digit ds s.grouping_separator ≡ true

clear_of : (ds : List ℕ) (s : SymbolStrings) → are_clear ds s ≡ true → AreClear ds s
clear_of ds s clear =
    let a = and_parts (has_no_digit ds s.minus_sign_prefix) _ clear in
    let b = and_parts (has_no_digit ds s.minus_sign_suffix) _ a.1 in
    let c = and_parts (has_no_digit ds s.plus_sign_prefix) _ b.1 in
    let d = and_parts (has_no_digit ds s.plus_sign_suffix) _ c.1 in
    let e = and_parts (has_no_digit ds s.decimal_separator) (has_no_digit ds s.grouping_separator) d.1 in
    record { minus_prefix = a.0; minus_suffix = b.0; plus_prefix = c.0; plus_suffix = d.0; point = e.0; group = e.1 }

-- texts are one where their characters are
pub same_chars : (a b : List ℕ) → IsUtf8 a → IsUtf8 b → chars a ≡ chars b → a ≡ b
same_chars a b first second same = sym (encodes-chars a first) ∙ ap encodes same ∙ encodes-chars b second

other_texts : (a b : List ℕ) → not (bytes_eq a b) ≡ true → a ≡ b → ⊥
other_texts a b other same = both_ways (bytes_eq a b) (not-true (bytes_eq a b) other) ((bytes_decides a b).1 same)

pub marks_of : (t : Tables) → AreTables t → is_readable_by t ≡ true → AreMarks t.digits (chars t.symbols.strings.decimal_separator) (chars t.symbols.strings.grouping_separator)
marks_of t are readable =
    let s : SymbolStrings = t.symbols.strings in
    let tests = tests_of t readable in
    let clear = clear_of t.digits s tests.clear in
    let apart = and_parts (not (bytes_eq s.decimal_separator [])) (not (bytes_eq s.decimal_separator s.grouping_separator)) tests.separators in
    record {
      differ = tests.differ;
      ten = are.ten;
      point = clear.point;
      between = clear.group;
      some = λ empty. other_texts s.decimal_separator [] apart.0 (sym (encodes-chars s.decimal_separator are.point) ∙ ap encodes empty);
      other = λ same. other_texts s.decimal_separator s.grouping_separator apart.1 (same_chars s.decimal_separator s.grouping_separator are.point are.group same);
    }

-- ---- affixes

abbrev pub prefix_for : Tables → Sign → List ℕ
prefix_for t sign = prefix_text (affixes_of t.symbols.strings sign)

abbrev pub suffix_for : Tables → Sign → List ℕ
suffix_for t sign = suffix_text (affixes_of t.symbols.strings sign)

pub prefix_utf8 : (t : Tables) (sign : Sign) → AreTables t → IsUtf8 (prefix_for t sign)
prefix_utf8 t NoSign are = IsUtf8-nil
prefix_utf8 t Negative are = are.minus_prefix
prefix_utf8 t Positive are = are.plus_prefix

pub suffix_utf8 : (t : Tables) (sign : Sign) → AreTables t → IsUtf8 (suffix_for t sign)
suffix_utf8 t NoSign are = IsUtf8-nil
suffix_utf8 t Negative are = are.minus_suffix
suffix_utf8 t Positive are = are.plus_suffix

empty_clear : (ds : List ℕ) → no_digits ds (chars []) ≡ true
empty_clear ds = ap (no_digits ds) chars-nil

pub prefix_clear : (t : Tables) (sign : Sign) → is_readable_by t ≡ true → no_digits t.digits (chars (prefix_for t sign)) ≡ true
prefix_clear t NoSign readable = empty_clear t.digits
prefix_clear t Negative readable = let clear = clear_of t.digits t.symbols.strings (tests_of t readable).clear in clear.minus_prefix
prefix_clear t Positive readable = let clear = clear_of t.digits t.symbols.strings (tests_of t readable).clear in clear.plus_prefix

pub suffix_clear : (t : Tables) (sign : Sign) → is_readable_by t ≡ true → no_digits t.digits (chars (suffix_for t sign)) ≡ true
suffix_clear t NoSign readable = empty_clear t.digits
suffix_clear t Negative readable = let clear = clear_of t.digits t.symbols.strings (tests_of t readable).clear in clear.minus_suffix
suffix_clear t Positive readable = let clear = clear_of t.digits t.symbols.strings (tests_of t readable).clear in clear.plus_suffix

-- ---- bytes and characters

encoded_digits : (table vs : List ℕ) → chained (map (digit_text table) vs) ≡ encodes (spelled_by table vs)
encoded_digits table [] = refl
encoded_digits table (v ∷ vs) = ap (λ bytes. digit_text table v ++ bytes) (encoded_digits table vs)

encoded_gap : (b c : Bool) (separator cs : List ℕ) (lists : List (List ℕ)) → b ≡ c → IsUtf8 separator → chained lists ≡ encodes cs → chained (cond b (separator ∷ []) [] ++ lists) ≡ encodes (cond c (chars separator) [] ++ cs)
encoded_gap true c separator cs lists same utf8 is =
    ap (λ bytes. separator ++ bytes) is ∙ ap (λ bytes. bytes ++ encodes cs) (sym (encodes-chars separator utf8)) ∙ sym (encodes-append (chars separator) cs)
    ∙ ap (λ d. encodes (cond d (chars separator) [] ++ cs)) same
encoded_gap false c separator cs lists same utf8 is = is ∙ ap (λ d. encodes (cond d (chars separator) [] ++ cs)) same

encoded_marked : (ends : ℕ → Bool) (table separator vs : List ℕ) → IsUtf8 separator → chained (marked ends (separator ∷ []) (map (digit_text table) vs)) ≡ encodes (marked ends (chars separator) (spelled_by table vs))
encoded_marked ends table separator [] utf8 = refl
encoded_marked ends table separator (v ∷ vs) utf8 =
    ap (λ bytes. digit_text table v ++ bytes)
    (encoded_gap (ends (length (map (digit_text table) vs))) (ends (length (spelled_by table vs))) separator (marked ends (chars separator) (spelled_by table vs)) (marked ends (separator ∷ []) (map (digit_text table) vs))
    (ap ends (length-map vs (digit_text table) ∙ sym (length-map vs (slice_index table)))) utf8 (encoded_marked ends table separator vs utf8))

-- the magnitudes at which groups of these digits end
abbrev pub ends_of : Tables → List ℕ → ℕ → Bool
ends_of t vs = ends_at (group_sizes t.strategy t.symbols.grouping_sizes (length (map (digit_text t.digits) vs)))

encoded_whole : (t : Tables) (vs : List ℕ) → AreTables t → 0 < length vs → whole_text t vs ≡ encodes (marked (ends_of t vs) (chars t.symbols.strings.grouping_separator) (spelled_by t.digits vs))
encoded_whole t vs are some =
    ap chained (joined_is_separated t.strategy t.symbols.grouping_sizes (t.symbols.strings.grouping_separator ∷ []) (map (digit_text t.digits) vs) (omega (arith, some, length-map vs (digit_text t.digits))))
    ∙ encoded_marked (ends_of t vs) t.digits t.symbols.strings.grouping_separator vs are.group

encoded_fraction : (t : Tables) (vs : List ℕ) → AreTables t → fraction_text t vs ≡ encodes (fraction_chars t.digits (chars t.symbols.strings.decimal_separator) vs)
encoded_fraction t [] are = refl
encoded_fraction t (v ∷ vs) are =
    ap (λ bytes. t.symbols.strings.decimal_separator ++ bytes) (encoded_digits t.digits (v ∷ vs))
    ∙ ap (λ bytes. bytes ++ encodes (spelled_by t.digits (v ∷ vs))) (sym (encodes-chars t.symbols.strings.decimal_separator are.point))
    ∙ sym (encodes-append (chars t.symbols.strings.decimal_separator) (spelled_by t.digits (v ∷ vs)))

-- the characters of a number without its sign
abbrev pub chars_of : Tables → Number → List ℕ
chars_of t n =
    number_chars (ends_of t (whole_digits n)) t.digits (chars t.symbols.strings.decimal_separator) (chars t.symbols.strings.grouping_separator) (whole_digits n) (fraction_digits n)

-- and of a decimal
abbrev pub plain_chars : Tables → SignedValue Number → List ℕ
plain_chars t v = chars (prefix_for t v.sign) ++ (chars_of t v.absolute ++ chars (suffix_for t v.sign))

encoded_number : (t : Tables) (n : Number) → AreTables t → 0 < length (whole_digits n) → unsigned_text t n ≡ encodes (chars_of t n)
encoded_number t n are some =
    ap (λ bytes. bytes ++ fraction_text t (fraction_digits n)) (encoded_whole t (whole_digits n) are some)
    ∙ ap (λ bytes. encodes (marked (ends_of t (whole_digits n)) (chars t.symbols.strings.grouping_separator) (spelled_by t.digits (whole_digits n))) ++ bytes) (encoded_fraction t (fraction_digits n) are)
    ∙ sym (encodes-append (marked (ends_of t (whole_digits n)) (chars t.symbols.strings.grouping_separator) (spelled_by t.digits (whole_digits n))) (fraction_chars t.digits (chars t.symbols.strings.decimal_separator) (fraction_digits n)))

pub encoded_decimal : (t : Tables) (v : SignedValue Number) → AreTables t → 0 < length (whole_digits v.absolute) → decimal_text t v ≡ encodes (plain_chars t v)
encoded_decimal t v are some =
    let prefix : List ℕ = prefix_for t v.sign in
    let suffix : List ℕ = suffix_for t v.sign in
    ap (λ bytes. prefix ++ (bytes ++ suffix)) (encoded_number t v.absolute are some)
    ∙ ap (λ bytes. prefix ++ (encodes (chars_of t v.absolute) ++ bytes)) (sym (encodes-chars suffix (suffix_utf8 t v.sign are)))
    ∙ ap (λ bytes. prefix ++ bytes) (sym (encodes-append (chars_of t v.absolute) (chars suffix)))
    ∙ ap (λ bytes. bytes ++ encodes (chars_of t v.absolute ++ chars suffix)) (sym (encodes-chars prefix (prefix_utf8 t v.sign are)))
    ∙ sym (encodes-append (chars prefix) (chars_of t v.absolute ++ chars suffix))

-- ---- the digits of its text

pub whole_some : (n : Number) → IsNumber n → 0 < length (whole_digits n)
whole_some n is = by (n.high - 32767) (let ones = is.ones in omega (arith, ones))
  where
    by : (k : ℕ) → 0 < k → 0 < length (digits_down n.count 32768 k)
    by zero some = absurd (omega (arith, some))
    by (suc k) some = omega arith

-- a sum of sizes above 0 is above 0
sum_above : (n : ℕ) (ns : List ℕ) → AllAbove (n ∷ ns) → 0 < sum (n ∷ ns)
sum_above n ns above = let first = above.0 in omega (arith, first, sum_by-cons (λ m. m) n ns)

no_end : (ns : List ℕ) → AllAbove ns → ends_at ns 0 ≡ false
no_end [] above = refl
no_end (n ∷ []) above = refl
no_end (n ∷ k ∷ ns) above =
    let some = sum_above k ns above.1 in or_from _ _ (ne_eqb 0 (sum (k ∷ ns)) (λ none. omega (arith, some, none))) (no_end (k ∷ ns) above.1)

-- no group ends at the last digit
pub last_ends : (t : Tables) (vs : List ℕ) → 0 < length vs → ends_of t vs 0 ≡ false
last_ends t vs some =
    no_end (group_sizes t.strategy t.symbols.grouping_sizes (length (map (digit_text t.digits) vs))) (are_sizes t.strategy t.symbols.grouping_sizes (length (map (digit_text t.digits) vs)) (omega (arith, some, length-map vs (digit_text t.digits)))).above

pub whole_again : (t : Tables) (v : SignedValue Number) → AreTables t → is_readable_by t ≡ true → IsNumber v.absolute → whole_in t.digits (chars t.symbols.strings.decimal_separator) (plain_chars t v) ≡ map character (whole_digits v.absolute)
whole_again t v are readable is =
    by (whole_digits v.absolute) (whole_some v.absolute is) (tens_down v.absolute.count 32768 (v.absolute.high - 32767)) (last_ends t (whole_digits v.absolute) (whole_some v.absolute is))
  where
    by : (vs : List ℕ) → 0 < length vs → AllBelowBase 10 vs → ends_of t (whole_digits v.absolute) 0 ≡ false
        → whole_in t.digits (chars t.symbols.strings.decimal_separator) (chars (prefix_for t v.sign) ++ (number_chars (ends_of t (whole_digits v.absolute)) t.digits (chars t.symbols.strings.decimal_separator) (chars t.symbols.strings.grouping_separator) vs (fraction_digits v.absolute) ++ chars (suffix_for t v.sign))) ≡ map character vs
    by [] some tens last = absurd (omega (arith, some))
    by (d ∷ ds) some tens last =
        whole_of_text t.digits (chars t.symbols.strings.decimal_separator) (chars t.symbols.strings.grouping_separator) (chars (prefix_for t v.sign)) (chars (suffix_for t v.sign)) (ends_of t (whole_digits v.absolute)) d ds (fraction_digits v.absolute)
        (marks_of t are readable) last tens (tens_down v.absolute.count v.absolute.low (32768 - v.absolute.low)) (prefix_clear t v.sign readable) (suffix_clear t v.sign readable)

pub fraction_again : (t : Tables) (v : SignedValue Number) → AreTables t → is_readable_by t ≡ true → IsNumber v.absolute → fraction_in t.digits (chars t.symbols.strings.decimal_separator) (plain_chars t v) ≡ map character (fraction_digits v.absolute)
fraction_again t v are readable is =
    by (whole_digits v.absolute) (whole_some v.absolute is) (tens_down v.absolute.count 32768 (v.absolute.high - 32767)) (last_ends t (whole_digits v.absolute) (whole_some v.absolute is))
  where
    by : (vs : List ℕ) → 0 < length vs → AllBelowBase 10 vs → ends_of t (whole_digits v.absolute) 0 ≡ false
        → fraction_in t.digits (chars t.symbols.strings.decimal_separator) (chars (prefix_for t v.sign) ++ (number_chars (ends_of t (whole_digits v.absolute)) t.digits (chars t.symbols.strings.decimal_separator) (chars t.symbols.strings.grouping_separator) vs (fraction_digits v.absolute) ++ chars (suffix_for t v.sign))) ≡ map character (fraction_digits v.absolute)
    by [] some tens last = absurd (omega (arith, some))
    by (d ∷ ds) some tens last =
        fraction_of_text t.digits (chars t.symbols.strings.decimal_separator) (chars t.symbols.strings.grouping_separator) (chars (prefix_for t v.sign)) (chars (suffix_for t v.sign)) (ends_of t (whole_digits v.absolute)) d ds (fraction_digits v.absolute)
        (marks_of t are readable) last tens (tens_down v.absolute.count v.absolute.low (32768 - v.absolute.low)) (prefix_clear t v.sign readable) (suffix_clear t v.sign readable)

-- the first character of a number without its sign is a digit
pub record StartsWithDigit (ds cs : List ℕ) : Type 0 where
  pub first : ℕ
  pub rest : List ℕ
  pub same : cs ≡ first ∷ rest
  pub digit : is_none (digit_of ds first) ≡ false

pub digit_first : (t : Tables) (n : Number) → AreTables t → is_readable_by t ≡ true → IsNumber n → StartsWithDigit t.digits (chars_of t n)
digit_first t n are readable is = by (whole_digits n) (whole_some n is) (tens_down n.count 32768 (n.high - 32767))
  where
    by : (vs : List ℕ) → 0 < length vs → AllBelowBase 10 vs → StartsWithDigit t.digits (number_chars (ends_of t (whole_digits n)) t.digits (chars t.symbols.strings.decimal_separator) (chars t.symbols.strings.grouping_separator) vs (fraction_digits n))
    by [] some tens = absurd (omega (arith, some))
    by (d ∷ ds) some tens = record {
      first = slice_index t.digits d;
      rest = _;
      same = refl;
      digit = ap is_none (found t.digits (chars t.symbols.strings.decimal_separator) (chars t.symbols.strings.grouping_separator) d (marks_of t are readable) tens.0);
    }

-- ---- the text of a decimal is UTF-8

-- a place beyond the table is the character 0
scalar_at : (table : List ℕ) (d : ℕ) → AllByRecursion IsScalar table → IsScalar (slice_index table d)
scalar_at [] zero are = refl
scalar_at [] (suc d) are = refl
scalar_at (c ∷ cs) zero are = are.0
scalar_at (c ∷ cs) (suc d) are = scalar_at cs d are.1

utf8_digit : (table : List ℕ) (d : ℕ) → AllByRecursion IsScalar table → IsUtf8 (digit_text table d)
utf8_digit table d are = IsUtf8-encode (slice_index table d) (scalar_at table d are)

utf8_digits : (table vs : List ℕ) → AllByRecursion IsScalar table → IsUtf8 (chained (map (digit_text table) vs))
utf8_digits table [] are = IsUtf8-nil
utf8_digits table (v ∷ vs) are = IsUtf8-append (digit_text table v) (chained (map (digit_text table) vs)) (utf8_digit table v are) (utf8_digits table vs are)

utf8_gap : (b : Bool) (separator : List ℕ) (lists : List (List ℕ)) → IsUtf8 separator → IsUtf8 (chained lists) → IsUtf8 (chained (cond b (separator ∷ []) [] ++ lists))
utf8_gap true separator lists utf8 rest = IsUtf8-append separator (chained lists) utf8 rest
utf8_gap false separator lists utf8 rest = rest

utf8_marked : (ends : ℕ → Bool) (table separator vs : List ℕ) → AllByRecursion IsScalar table → IsUtf8 separator → IsUtf8 (chained (marked ends (separator ∷ []) (map (digit_text table) vs)))
utf8_marked ends table separator [] are utf8 = IsUtf8-nil
utf8_marked ends table separator (v ∷ vs) are utf8 =
    let rest = marked ends (separator ∷ []) (map (digit_text table) vs) in
    let gap = ends (length (map (digit_text table) vs)) in
    IsUtf8-append (digit_text table v) (chained (cond gap (separator ∷ []) [] ++ rest)) (utf8_digit table v are) (utf8_gap gap separator rest utf8 (utf8_marked ends table separator vs are utf8))

utf8_whole : (t : Tables) (vs : List ℕ) → AreTables t → 0 < length vs → IsUtf8 (whole_text t vs)
utf8_whole t vs are some =
    subst IsUtf8
    (sym (ap chained (joined_is_separated t.strategy t.symbols.grouping_sizes (t.symbols.strings.grouping_separator ∷ []) (map (digit_text t.digits) vs) (omega (arith, some, length-map vs (digit_text t.digits))))))
    (utf8_marked (ends_of t vs) t.digits t.symbols.strings.grouping_separator vs are.digits are.group)

utf8_fraction : (t : Tables) (vs : List ℕ) → AreTables t → IsUtf8 (fraction_text t vs)
utf8_fraction t [] are = IsUtf8-nil
utf8_fraction t (v ∷ vs) are =
    IsUtf8-append t.symbols.strings.decimal_separator (chained (map (digit_text t.digits) (v ∷ vs))) are.point (utf8_digits t.digits (v ∷ vs) are.digits)

pub decimal_utf8 : (t : Tables) (v : SignedValue Number) → AreTables t → IsDecimal v → IsUtf8 (decimal_text t v)
decimal_utf8 t v are is =
    let whole = whole_text t (whole_digits v.absolute) in
    let fraction = fraction_text t (fraction_digits v.absolute) in
    IsUtf8-append (prefix_for t v.sign) (unsigned_text t v.absolute ++ suffix_for t v.sign) (prefix_utf8 t v.sign are)
    (IsUtf8-append (unsigned_text t v.absolute) (suffix_for t v.sign)
    (IsUtf8-append whole fraction (utf8_whole t (whole_digits v.absolute) are (whole_some v.absolute is)) (utf8_fraction t (fraction_digits v.absolute) are))
    (suffix_utf8 t v.sign are))
