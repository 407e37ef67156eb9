-- The fold of a plain text is the plain text of the folded symbols.
use Rattle.std.proofs.Common.{◌≡◌, ℕ, zero, suc, ◌+◌, ◌-◌, ◌<◌, ◌≤◌, Bool, true, false, cond, nat_le, List, [], ◌∷◌, ◌++◌, length, map, slice_index, Option, None, Some, refl, sym, ap, ◌∙◌, arith}
use Rattle.std.proofs.lemmas.Bool.{and_parts, and_from, leb-true}
use Rattle.std.proofs.lemmas.List.{length-map}
use Rattle.std.proofs.lemmas.List.Elements.{filter_map-append}
use Rattle.std.proofs.lemmas.Str.{chars_from_encodes, chars-encodes, scalars-chars, chars-nil}
use Rattle.std.proofs.Math.Utf8.{scalars}
use Rattle.std.specs.Char.{IsScalar}
use Rattle.std.specs.List.{AllByRecursion, cons_option}
use Rattle.std.specs.Int.Digits.{AllBelowBase}
use Rattle.std.specs.Str.{IsUtf8, chars}
use lib.Utf8.{encodes, scalar, low_scalar}
use Rattle.fixed_decimal.specs.Number.{Number, fraction_digits, whole_digits}
use Rattle.fixed_decimal.specs.NumberText.{character}
use Rattle.fixed_decimal.specs.SignedValue.{SignedValue}
use Rattle.fixed_decimal.specs.declared.Sign.{Sign}
use Rattle.fixed_decimal.specs.declared.Sign.TheVariants.{None as NoSign, Negative, Positive}
use Rattle.icu_decimal_symbols.specs.declared.options.GroupingStrategy.{GroupingStrategy}
use Rattle.icu_decimal_plain.specs.Grouper.{ends_at, group_sizes, marked}
use Rattle.icu_decimal_plain.specs.PlainText.{Tables, decimal_text, digit_text}
use Rattle.icu_decimal_plain.proofs.PlainTextLemmas.{tens_down}
use Rattle.icu_decimal_lenient.specs.Folding.{is_apostrophe, is_between, is_comma, is_direction, is_minus, is_plus, is_point, is_space, fold_digit, fold_of, folded_alike, folded_chars, folded_tables, folded_text, plain_digits, plain_of}
use Rattle.icu_decimal_lenient.specs.LenientLaws.{FoldOfTextIsText}
use Rattle.icu_decimal_reading.specs.Readable.{all_differ, digit_of, is_readable_by}
use Rattle.icu_decimal_reading.specs.ReadingLaws.{AreTables}
use Rattle.icu_decimal_reading.proofs.PlainLemmas.{chars_of, decimal_utf8, encoded_decimal, ends_of, plain_chars, prefix_for, suffix_for, tests_of, whole_some}
use Rattle.icu_decimal_reading.proofs.ScanLemmas.{digit_at, digit_below, fraction_chars, number_chars, spelled_by}

-- ---- a digit

fold_digit_at : (ds : List ℕ) (v : ℕ) → all_differ ds ≡ true → length ds ≡ 10 → v < 10 → fold_of ds (slice_index ds v) ≡ Some (character v)
unfolding fold_of
fold_digit_at ds v differ ten below = ap (λ o. fold_digit o (slice_index ds v)) (digit_at ds v differ (omega (arith, ten, below)))

plain_at : (v : ℕ) → v < 10 → slice_index plain_digits v ≡ character v
plain_at zero below = refl
plain_at (suc zero) below = refl
plain_at (suc (suc zero)) below = refl
plain_at (suc (suc (suc zero))) below = refl
plain_at (suc (suc (suc (suc zero)))) below = refl
plain_at (suc (suc (suc (suc (suc zero))))) below = refl
plain_at (suc (suc (suc (suc (suc (suc zero)))))) below = refl
plain_at (suc (suc (suc (suc (suc (suc (suc zero))))))) below = refl
plain_at (suc (suc (suc (suc (suc (suc (suc (suc zero)))))))) below = refl
plain_at (suc (suc (suc (suc (suc (suc (suc (suc (suc zero))))))))) below = refl
plain_at (suc (suc (suc (suc (suc (suc (suc (suc (suc (suc v)))))))))) below = absurd (omega (arith, below))

-- ---- folded characters are characters

scalar_cond : (b : Bool) (x y : ℕ) → (b ≡ true → scalar x ≡ true) → (b ≡ false → scalar y ≡ true) → scalar (cond b x y) ≡ true
scalar_cond true x y first second = first refl
scalar_cond false x y first second = second refl

wide_scalar : (c : ℕ) → is_between 0xFF10 0xFF19 c ≡ true → scalar (c - 0xFF10 + 48) ≡ true
wide_scalar c is = let high : c ≤ 0xFF19 = leb-true c 0xFF19 (and_parts (nat_le 0xFF10 c) (nat_le c 0xFF19) is).1 in low_scalar (c - 0xFF10 + 48) (omega (arith, high))

plain_scalar : (c : ℕ) → scalar c ≡ true → scalar (plain_of c) ≡ true
plain_scalar c is =
    scalar_cond (is_minus c) _ _ (λ _. refl) (λ _. scalar_cond (is_plus c) _ _ (λ _. refl) (λ _. scalar_cond (is_apostrophe c) _ _ (λ _. refl) (λ _. scalar_cond (is_space c) _ _ (λ _. refl)
    (λ _. scalar_cond (is_point c) _ _ (λ _. refl) (λ _. scalar_cond (is_comma c) _ _ (λ _. refl) (λ _. scalar_cond (is_between 0xFF10 0xFF19 c) _ _ (wide_scalar c) (λ _. is)))))))

mark_scalars : (b d : Bool) (c e : ℕ) (rest : List ℕ) → scalar c ≡ true → scalar e ≡ true → scalars rest ≡ true → scalars (cons_option (cond b (Some c) (cond d None (Some e))) rest) ≡ true
mark_scalars true d c e rest is plain more = and_from (scalar c) (scalars rest) is more
mark_scalars false true c e rest is plain more = more
mark_scalars false false c e rest is plain more = and_from (scalar e) (scalars rest) plain more

fold_scalars : (ds : List ℕ) (c : ℕ) (o : Option ℕ) (rest : List ℕ) → length ds ≡ 10 → digit_of ds c ≡ o → scalar c ≡ true → scalars rest ≡ true → scalars (cons_option (fold_digit o c) rest) ≡ true
fold_scalars ds c None rest ten is one more = mark_scalars (nat_le c 0x7F) (is_direction c) c (plain_of c) rest one (plain_scalar c one) more
fold_scalars ds c (Some d) rest ten is one more =
    let below : d < length ds = digit_below ds c d is in
    and_from (scalar (character d)) (scalars rest) (low_scalar (character d) (omega (arith, below, ten))) more

pub folded_scalars : (ds cs : List ℕ) → length ds ≡ 10 → scalars cs ≡ true → scalars (folded_chars ds cs) ≡ true
unfolding fold_of
folded_scalars ds [] ten is = refl
folded_scalars ds (c ∷ cs) ten is =
    let parts = and_parts (scalar c) (scalars cs) is in
    fold_scalars ds c (digit_of ds c) (folded_chars ds cs) ten refl parts.0 (folded_scalars ds cs ten parts.1)

-- the characters of a folded text
pub chars_folded : (ds text : List ℕ) → length ds ≡ 10 → IsUtf8 text → chars (folded_text ds text) ≡ folded_chars ds (chars text)
chars_folded ds text ten utf8 = chars-encodes (folded_chars ds (chars text)) (folded_scalars ds (chars text) ten (scalars-chars text utf8))

pub folded_utf8 : (ds text : List ℕ) → length ds ≡ 10 → IsUtf8 text → IsUtf8 (folded_text ds text)
folded_utf8 ds text ten utf8 = (folded_chars ds (chars text), (folded_scalars ds (chars text) ten (scalars-chars text utf8), refl))

plain_scalars : AllByRecursion IsScalar plain_digits
plain_scalars = (refl, (refl, (refl, (refl, (refl, (refl, (refl, (refl, (refl, (refl, tt))))))))))

pub are_folded : (t : Tables) (strategy : GroupingStrategy) → AreTables t → AreTables (folded_tables strategy t)
are_folded t strategy are = record {
  ten = refl;
  digits = plain_scalars;
  minus_prefix = folded_utf8 t.digits t.symbols.strings.minus_sign_prefix are.ten are.minus_prefix;
  minus_suffix = folded_utf8 t.digits t.symbols.strings.minus_sign_suffix are.ten are.minus_suffix;
  plus_prefix = folded_utf8 t.digits t.symbols.strings.plus_sign_prefix are.ten are.plus_prefix;
  plus_suffix = folded_utf8 t.digits t.symbols.strings.plus_sign_suffix are.ten are.plus_suffix;
  point = folded_utf8 t.digits t.symbols.strings.decimal_separator are.ten are.point;
  group = folded_utf8 t.digits t.symbols.strings.grouping_separator are.ten are.group;
}

pub are_alike : (t : Tables) → AreTables t → AreTables (folded_alike t)
are_alike t are = let folds = are_folded t t.strategy are in record { ten = refl; digits = folds.digits; minus_prefix = folds.minus_prefix; minus_suffix = folds.minus_suffix; plus_prefix = folds.plus_prefix; plus_suffix = folds.plus_suffix; point = folds.point; group = folds.group }

-- ---- the characters of a number

fold_gap : (ds sep : List ℕ) (b : Bool) → folded_chars ds (cond b sep []) ≡ cond b (folded_chars ds sep) []
fold_gap ds sep true = refl
fold_gap ds sep false = refl

fold_spelled : (ds vs : List ℕ) → all_differ ds ≡ true → length ds ≡ 10 → AllBelowBase 10 vs → folded_chars ds (spelled_by ds vs) ≡ spelled_by plain_digits vs
fold_spelled ds [] differ ten tens = refl
fold_spelled ds (v ∷ vs) differ ten tens =
    ap (λ o. cons_option o (folded_chars ds (spelled_by ds vs))) (fold_digit_at ds v differ ten tens.0)
    ∙ ap (λ c. c ∷ folded_chars ds (spelled_by ds vs)) (sym (plain_at v tens.0))
    ∙ ap (λ cs. slice_index plain_digits v ∷ cs) (fold_spelled ds vs differ ten tens.1)

fold_marked : (ds sep vs : List ℕ) (ends : ℕ → Bool) → all_differ ds ≡ true → length ds ≡ 10 → AllBelowBase 10 vs
    → folded_chars ds (marked ends sep (spelled_by ds vs)) ≡ marked ends (folded_chars ds sep) (spelled_by plain_digits vs)
fold_marked ds sep [] ends differ ten tens = refl
fold_marked ds sep (v ∷ vs) ends differ ten tens =
    let gap : List ℕ = cond (ends (length (spelled_by ds vs))) sep [] in
    let more : List ℕ = marked ends sep (spelled_by ds vs) in
    let counts : length (spelled_by ds vs) ≡ length (spelled_by plain_digits vs) = length-map vs (slice_index ds) ∙ sym (length-map vs (slice_index plain_digits)) in
    ap (λ o. cons_option o (folded_chars ds (gap ++ more))) (fold_digit_at ds v differ ten tens.0)
    ∙ ap (λ c. c ∷ folded_chars ds (gap ++ more)) (sym (plain_at v tens.0))
    ∙ ap (λ cs. slice_index plain_digits v ∷ cs) (filter_map-append (fold_of ds) gap more)
    ∙ ap (λ cs. slice_index plain_digits v ∷ (cs ++ folded_chars ds more)) (fold_gap ds sep (ends (length (spelled_by ds vs))))
    ∙ ap (λ n. slice_index plain_digits v ∷ (cond (ends n) (folded_chars ds sep) [] ++ folded_chars ds more)) counts
    ∙ ap (λ cs. slice_index plain_digits v ∷ (cond (ends (length (spelled_by plain_digits vs))) (folded_chars ds sep) [] ++ cs)) (fold_marked ds sep vs ends differ ten tens.1)

fold_fraction : (ds sep vs : List ℕ) → all_differ ds ≡ true → length ds ≡ 10 → AllBelowBase 10 vs
    → folded_chars ds (fraction_chars ds sep vs) ≡ fraction_chars plain_digits (folded_chars ds sep) vs
fold_fraction ds sep [] differ ten tens = refl
fold_fraction ds sep (v ∷ vs) differ ten tens =
    filter_map-append (fold_of ds) sep (spelled_by ds (v ∷ vs)) ∙ ap (λ cs. folded_chars ds sep ++ cs) (fold_spelled ds (v ∷ vs) differ ten tens)

fold_number : (ds sep group whole fraction : List ℕ) (ends : ℕ → Bool) → all_differ ds ≡ true → length ds ≡ 10 → AllBelowBase 10 whole → AllBelowBase 10 fraction
    → folded_chars ds (number_chars ends ds sep group whole fraction) ≡ number_chars ends plain_digits (folded_chars ds sep) (folded_chars ds group) whole fraction
fold_number ds sep group whole fraction ends differ ten first second =
    filter_map-append (fold_of ds) (marked ends group (spelled_by ds whole)) (fraction_chars ds sep fraction)
    ∙ ap (λ cs. cs ++ folded_chars ds (fraction_chars ds sep fraction)) (fold_marked ds group whole ends differ ten first)
    ∙ ap (λ cs. marked ends (folded_chars ds group) (spelled_by plain_digits whole) ++ cs) (fold_fraction ds sep fraction differ ten second)

fold_chars_of : (t : Tables) (n : Number) → AreTables t → is_readable_by t ≡ true → folded_chars t.digits (chars_of t n) ≡ chars_of (folded_alike t) n
fold_chars_of t n are readable =
    let s = t.symbols.strings in
    let plain : Tables = folded_alike t in
    let whole : List ℕ = whole_digits n in
    let fraction : List ℕ = fraction_digits n in
    let counts : length (map (digit_text t.digits) whole) ≡ length (map (digit_text plain_digits) whole) = length-map whole (digit_text t.digits) ∙ sym (length-map whole (digit_text plain_digits)) in
    fold_number t.digits (chars s.decimal_separator) (chars s.grouping_separator) whole fraction (ends_of t whole) (tests_of t readable).differ are.ten (tens_down n.count 32768 (n.high - 32767)) (tens_down n.count n.low (32768 - n.low))
    ∙ ap (λ cs. number_chars (ends_of t whole) plain_digits cs (folded_chars t.digits (chars s.grouping_separator)) whole fraction) (sym (chars_folded t.digits s.decimal_separator are.ten are.point))
    ∙ ap (λ cs. number_chars (ends_of t whole) plain_digits (chars plain.symbols.strings.decimal_separator) cs whole fraction) (sym (chars_folded t.digits s.grouping_separator are.ten are.group))
    ∙ ap (λ k. number_chars (ends_at (group_sizes t.strategy t.symbols.grouping_sizes k)) plain_digits (chars plain.symbols.strings.decimal_separator) (chars plain.symbols.strings.grouping_separator) whole fraction) counts

-- ---- and of a decimal

fold_empty : (ds : List ℕ) → folded_chars ds (chars []) ≡ chars []
fold_empty ds = ap (folded_chars ds) chars-nil ∙ sym chars-nil

fold_prefix : (t : Tables) (sign : Sign) → AreTables t → folded_chars t.digits (chars (prefix_for t sign)) ≡ chars (prefix_for (folded_alike t) sign)
fold_prefix t NoSign are = fold_empty t.digits
fold_prefix t Negative are = sym (chars_folded t.digits t.symbols.strings.minus_sign_prefix are.ten are.minus_prefix)
fold_prefix t Positive are = sym (chars_folded t.digits t.symbols.strings.plus_sign_prefix are.ten are.plus_prefix)

fold_suffix : (t : Tables) (sign : Sign) → AreTables t → folded_chars t.digits (chars (suffix_for t sign)) ≡ chars (suffix_for (folded_alike t) sign)
fold_suffix t NoSign are = fold_empty t.digits
fold_suffix t Negative are = sym (chars_folded t.digits t.symbols.strings.minus_sign_suffix are.ten are.minus_suffix)
fold_suffix t Positive are = sym (chars_folded t.digits t.symbols.strings.plus_sign_suffix are.ten are.plus_suffix)

pub fold_plain_chars : (t : Tables) (v : SignedValue Number) → AreTables t → is_readable_by t ≡ true → folded_chars t.digits (plain_chars t v) ≡ plain_chars (folded_alike t) v
fold_plain_chars t v are readable =
    let plain : Tables = folded_alike t in
    filter_map-append (fold_of t.digits) (chars (prefix_for t v.sign)) (chars_of t v.absolute ++ chars (suffix_for t v.sign))
    ∙ ap (λ cs. cs ++ folded_chars t.digits (chars_of t v.absolute ++ chars (suffix_for t v.sign))) (fold_prefix t v.sign are)
    ∙ ap (λ cs. chars (prefix_for plain v.sign) ++ cs) (filter_map-append (fold_of t.digits) (chars_of t v.absolute) (chars (suffix_for t v.sign)))
    ∙ ap (λ cs. chars (prefix_for plain v.sign) ++ (cs ++ folded_chars t.digits (chars (suffix_for t v.sign)))) (fold_chars_of t v.absolute are readable)
    ∙ ap (λ cs. chars (prefix_for plain v.sign) ++ (chars_of plain v.absolute ++ cs)) (fold_suffix t v.sign are)

pub fold_of_text : FoldOfTextIsText
fold_of_text t v are readable is =
    let plain : Tables = folded_alike t in
    let some = whole_some v.absolute is in
    ap (λ cs. encodes (folded_chars t.digits cs)) (sym (chars_from_encodes (plain_chars t v) (decimal_text t v) (decimal_utf8 t v are is) (sym (encoded_decimal t v are some))))
    ∙ ap encodes (fold_plain_chars t v are readable)
    ∙ sym (encoded_decimal plain v (are_alike t are) some)
