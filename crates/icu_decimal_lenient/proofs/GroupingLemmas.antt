-- Each text of a decimal is one without groups or one with all of them, and under two groupings a text has one decimal.
use Rattle.std.proofs.Common.{◌≡◌, ◌⊎◌, inl, inr, ℕ, ◌+◌, ◌-◌, ◌<◌, ◌≤◌, Bool, true, false, cond, not, ◌&&◌, ◌==◌, nat_le, List, [], ◌∷◌, ◌++◌, length, map, slice_index, is_none, refl, sym, ap, ◌∙◌, append_assoc, arith}
use Rattle.std.proofs.lemmas.Bool.{and_from, and_parts, and_right, false≢true, leb-true, le-leb}
use Rattle.std.proofs.lemmas.List.{append_cancel_left}
use Rattle.std.proofs.lemmas.Str.{encodes_same}
use Rattle.std.specs.Int.Digits.{AllBelowBase}
use Rattle.std.specs.Str.{chars}
use Rattle.fixed_decimal.specs.Number.{Number, fraction_digits, whole_digits}
use Rattle.fixed_decimal.specs.NumberText.{after_point, character}
use Rattle.fixed_decimal.specs.SignedValue.{SignedValue}
use Rattle.fixed_decimal.specs.TextLaws.{IsDecimal}
use Rattle.fixed_decimal.specs.declared.Sign.TheVariants.{None as NoSign}
use Rattle.fixed_decimal.proofs.SignedReadOnceLemmas.{same_signed, signed_reads_once}
use Rattle.icu_decimal_symbols.specs.declared.grouping_sizes.GroupingSizes.{GroupingSizes}
use Rattle.icu_decimal_symbols.specs.declared.options.GroupingStrategy.{GroupingStrategy}
use Rattle.icu_decimal_symbols.specs.declared.options.GroupingStrategy.TheVariants.{Auto, Never, Always, Min2, OnAligned}
use Rattle.icu_decimal_plain.specs.Affixes.{affixes_of}
use Rattle.icu_decimal_plain.specs.Grouper.{cut_by, cut_sizes, group_sizes, is_grouped, joined, least_front, marked, may_group, middle_size}
use Rattle.icu_decimal_plain.specs.PlainText.{Tables, chained, decimal_text, digit_text, fraction_text, prefix_text, suffix_text}
use Rattle.icu_decimal_plain.proofs.PlainTextLemmas.{tens_down}
use Rattle.icu_decimal_lenient.specs.LenientLaws.{GroupingsHaveOneDecimal, TwoGroupingsAreEnough, grouped_as, under}
use Rattle.icu_decimal_reading.specs.PlainReading.{fraction_in, whole_in, with_sign}
use Rattle.icu_decimal_reading.specs.Readable.{digit_of, is_readable_by}
use Rattle.icu_decimal_reading.specs.ReadingLaws.{AreTables}
use Rattle.icu_decimal_reading.proofs.LawLemmas.{front_again, front_of, signs_tell}
use Rattle.icu_decimal_reading.proofs.NumberLemmas.{number_again}
use Rattle.icu_decimal_reading.proofs.PlainLemmas.{chars_of, encoded_decimal, ends_of, fraction_again, last_ends, marks_of, plain_chars, prefix_for, prefix_utf8, same_chars, suffix_for, suffix_utf8, whole_again, whole_some}
use Rattle.icu_decimal_reading.proofs.ScanLemmas.{AreMarks, found, fraction_chars, no_digits, number_chars, spelled_by}

-- ---- two groupings are enough

-- the text of a decimal in groups of these sizes
text_in : Tables → SignedValue Number → List ℕ → List ℕ
text_in t v sizes =
    let affixes = affixes_of t.symbols.strings v.sign in
    prefix_text affixes ++ ((chained (joined (t.symbols.strings.grouping_separator ∷ []) (cut_by sizes (map (digit_text t.digits) (whole_digits v.absolute)))) ++ fraction_text t (fraction_digits v.absolute)) ++ suffix_text affixes)

abbrev count_of : Tables → SignedValue Number → ℕ
count_of t v = length (map (digit_text t.digits) (whole_digits v.absolute))

abbrev first_groups : Tables → GroupingSizes
first_groups t = record t.symbols.grouping_sizes { min_grouping = 1 }

by_sizes : (t : Tables) (v : SignedValue Number) (strategy : GroupingStrategy) → group_sizes t.strategy t.symbols.grouping_sizes (count_of t v) ≡ group_sizes strategy (first_groups t) (count_of t v)
    → decimal_text t v ≡ decimal_text (grouped_as strategy t) v
unfolding text_in
by_sizes t v strategy same = ap (text_in t v) same

never_groups : (s : GroupingSizes) (d : ℕ) → is_grouped Never s d ≡ false
never_groups s d = and_right (not (s.primary == 0)) false refl

some_front : (strategy : GroupingStrategy) (n : ℕ) → 1 ≤ least_front strategy n
some_front Auto n = omega arith
some_front Never n = omega arith
some_front Always n = omega arith
some_front Min2 n = omega arith
some_front OnAligned n = omega arith

-- what is in groups is so under `Always`, where they begin with the first digit before them
always_groups : (strategy : GroupingStrategy) (s : GroupingSizes) (d : ℕ) → is_grouped strategy s d ≡ true → is_grouped Always (record s { min_grouping = 1 }) d ≡ true
always_groups strategy s d grouped =
    let parts = and_parts (not (s.primary == 0)) (may_group strategy && nat_le (s.primary + least_front strategy s.min_grouping) d) grouped in
    let more = and_parts (may_group strategy) (nat_le (s.primary + least_front strategy s.min_grouping) d) parts.1 in
    let enough : s.primary + least_front strategy s.min_grouping ≤ d = leb-true (s.primary + least_front strategy s.min_grouping) d more.1 in
    let front = some_front strategy s.min_grouping in
    and_from (not (s.primary == 0)) (nat_le (s.primary + 1) d) parts.0 (le-leb (s.primary + 1) d (omega (arith, enough, front)))

sizes_by : (a b : Bool) (p q d : ℕ) → a ≡ b → cond a (cut_sizes p q d) (d ∷ []) ≡ cond b (cut_sizes p q d) (d ∷ [])
sizes_by a b p q d same = ap (λ c. cond c (cut_sizes p q d) (d ∷ [])) same

pub two_groupings : TwoGroupingsAreEnough
two_groupings t v = by (is_grouped t.strategy t.symbols.grouping_sizes (count_of t v)) refl
  where
    by : (b : Bool) → is_grouped t.strategy t.symbols.grouping_sizes (count_of t v) ≡ b → (decimal_text t v ≡ decimal_text (grouped_as Never t) v) ⊎ (decimal_text t v ≡ decimal_text (grouped_as Always t) v)
    by true is = inr (by_sizes t v Always (sizes_by (is_grouped t.strategy t.symbols.grouping_sizes (count_of t v)) (is_grouped Always (first_groups t) (count_of t v)) t.symbols.grouping_sizes.primary (middle_size t.symbols.grouping_sizes) (count_of t v)
        (is ∙ sym (always_groups t.strategy t.symbols.grouping_sizes (count_of t v) is))))
    by false is = inl (by_sizes t v Never (sizes_by (is_grouped t.strategy t.symbols.grouping_sizes (count_of t v)) (is_grouped Never (first_groups t) (count_of t v)) t.symbols.grouping_sizes.primary (middle_size t.symbols.grouping_sizes) (count_of t v)
        (is ∙ sym (never_groups (first_groups t) (count_of t v)))))

-- ---- under two groupings a text has one decimal

pub are_under : (t : Tables) (strategy : GroupingStrategy) → AreTables t → AreTables (under strategy t)
are_under t strategy are = record { ten = are.ten; digits = are.digits; minus_prefix = are.minus_prefix; minus_suffix = are.minus_suffix; plus_prefix = are.plus_prefix; plus_suffix = are.plus_suffix; point = are.point; group = are.group }

head_same : (x y : ℕ) (xs ys : List ℕ) → x ∷ xs ≡ y ∷ ys → x ≡ y
head_same x y xs ys e = cc

tail_same : (x y : ℕ) (xs ys : List ℕ) → x ∷ xs ≡ y ∷ ys → xs ≡ ys
tail_same x y xs ys e = cc

-- a separator is not where a digit does
no_separator : (ds sep rest other : List ℕ) (y : ℕ) → no_digits ds sep ≡ true → is_none (digit_of ds y) ≡ false → sep ++ y ∷ rest ≡ y ∷ other → y ∷ rest ≡ y ∷ other
no_separator ds [] rest other y clear digit same = same
no_separator ds (c ∷ cs) rest other y clear digit same =
    let parts = and_parts (is_none (digit_of ds c)) (no_digits ds cs) clear in
    absurd (false≢true (sym digit ∙ ap (λ x. is_none (digit_of ds x)) (sym (head_same c y _ _ same)) ∙ parts.0))

past_gap : (ds sep rest other : List ℕ) (y : ℕ) (a b : Bool) → no_digits ds sep ≡ true → is_none (digit_of ds y) ≡ false
    → cond a sep [] ++ y ∷ rest ≡ cond b sep [] ++ y ∷ other → y ∷ rest ≡ y ∷ other
past_gap ds sep rest other y true true clear digit same = append_cancel_left sep (y ∷ rest) (y ∷ other) same
past_gap ds sep rest other y false false clear digit same = same
past_gap ds sep rest other y true false clear digit same = no_separator ds sep rest other y clear digit same
past_gap ds sep rest other y false true clear digit same = sym (no_separator ds sep other rest y clear digit (sym same))

-- what follows the same digits in two groupings
past_groups : (ds sep group rest other : List ℕ) (one two : ℕ → Bool) (v : ℕ) (vs : List ℕ) → AreMarks ds sep group → one 0 ≡ false → two 0 ≡ false → AllBelowBase 10 (v ∷ vs)
    → marked one group (spelled_by ds (v ∷ vs)) ++ rest ≡ marked two group (spelled_by ds (v ∷ vs)) ++ other → rest ≡ other
past_groups ds sep group rest other one two v [] marks first second tens same =
    tail_same (slice_index ds v) (slice_index ds v) rest other
    (ap (λ b. (slice_index ds v ∷ (cond b group [] ++ [])) ++ rest) (sym first) ∙ same ∙ ap (λ b. (slice_index ds v ∷ (cond b group [] ++ [])) ++ other) second)
past_groups ds sep group rest other one two v (w ∷ ws) marks first second tens same =
    let a : Bool = one (length (spelled_by ds (w ∷ ws))) in
    let b : Bool = two (length (spelled_by ds (w ∷ ws))) in
    let inner : cond a group [] ++ (marked one group (spelled_by ds (w ∷ ws)) ++ rest) ≡ cond b group [] ++ (marked two group (spelled_by ds (w ∷ ws)) ++ other) =
    sym (append_assoc (cond a group []) (marked one group (spelled_by ds (w ∷ ws))) rest) ∙ tail_same (slice_index ds v) (slice_index ds v) _ _ same ∙ append_assoc (cond b group []) (marked two group (spelled_by ds (w ∷ ws))) other in
    past_groups ds sep group rest other one two w ws marks first second tens.1
    (past_gap ds group _ _ (slice_index ds w) a b marks.between (ap is_none (found ds sep group w marks tens.1.0)) inner)

module _ (t : Tables) (one other : GroupingStrategy) (a b : SignedValue Number) (are : AreTables t) (readable : is_readable_by t ≡ true) (first : IsDecimal a) (second : IsDecimal b)
    (same : plain_chars (under one t) a ≡ plain_chars (under other t) b) where
  absolute_same : a.absolute ≡ b.absolute
  absolute_same =
      let sep : List ℕ = chars t.symbols.strings.decimal_separator in
      let whole : map character (whole_digits a.absolute) ≡ map character (whole_digits b.absolute) =
      sym (whole_again (under one t) a (are_under t one are) readable first) ∙ ap (whole_in t.digits sep) same ∙ whole_again (under other t) b (are_under t other are) readable second in
      let fraction : map character (fraction_digits a.absolute) ≡ map character (fraction_digits b.absolute) =
      sym (fraction_again (under one t) a (are_under t one are) readable first) ∙ ap (fraction_in t.digits sep) same ∙ fraction_again (under other t) b (are_under t other are) readable second in
      ap (λ (v : SignedValue Number). v.absolute) (signed_reads_once (map character (whole_digits a.absolute) ++ after_point (map character (fraction_digits a.absolute))) (with_sign NoSign a.absolute) (with_sign NoSign b.absolute)
      (number_again a.absolute (map character (whole_digits a.absolute)) (map character (fraction_digits a.absolute)) first refl refl)
      (number_again b.absolute (map character (whole_digits a.absolute)) (map character (fraction_digits a.absolute)) second whole fraction))

  prefix_same : chars (prefix_for t a.sign) ≡ chars (prefix_for t b.sign)
  prefix_same = sym (front_again (under one t) a (are_under t one are) readable first) ∙ ap (front_of t.digits) same ∙ front_again (under other t) b (are_under t other are) readable second

  -- what follows the prefix
  number_same : chars_of (under one t) a.absolute ++ chars (suffix_for t a.sign) ≡ chars_of (under other t) a.absolute ++ chars (suffix_for t b.sign)
  number_same = append_cancel_left (chars (prefix_for t a.sign)) _ _
      (same ∙ ap (λ p. p ++ (chars_of (under other t) b.absolute ++ chars (suffix_for t b.sign))) (sym prefix_same)
      ∙ ap (λ n. chars (prefix_for t a.sign) ++ (chars_of (under other t) n ++ chars (suffix_for t b.sign))) (sym absolute_same))

  suffix_by : (whole fraction : List ℕ) (ends_one ends_other : ℕ → Bool) → 0 < length whole → AllBelowBase 10 whole → ends_one 0 ≡ false → ends_other 0 ≡ false
      → number_chars ends_one t.digits (chars t.symbols.strings.decimal_separator) (chars t.symbols.strings.grouping_separator) whole fraction ++ chars (suffix_for t a.sign)
      ≡ number_chars ends_other t.digits (chars t.symbols.strings.decimal_separator) (chars t.symbols.strings.grouping_separator) whole fraction ++ chars (suffix_for t b.sign)
      → chars (suffix_for t a.sign) ≡ chars (suffix_for t b.sign)
  suffix_by [] fraction ends_one ends_other some tens last_one last_other e = absurd (omega (arith, some))
  suffix_by (v ∷ vs) fraction ends_one ends_other some tens last_one last_other e =
      let sep : List ℕ = chars t.symbols.strings.decimal_separator in
      let group : List ℕ = chars t.symbols.strings.grouping_separator in
      let behind : List ℕ = fraction_chars t.digits sep fraction in
      append_cancel_left behind _ _
      (past_groups t.digits sep group (behind ++ chars (suffix_for t a.sign)) (behind ++ chars (suffix_for t b.sign)) ends_one ends_other v vs (marks_of t are readable) last_one last_other tens
      (sym (append_assoc (marked ends_one group (spelled_by t.digits (v ∷ vs))) behind (chars (suffix_for t a.sign))) ∙ e
      ∙ append_assoc (marked ends_other group (spelled_by t.digits (v ∷ vs))) behind (chars (suffix_for t b.sign))))

  suffix_same : chars (suffix_for t a.sign) ≡ chars (suffix_for t b.sign)
  suffix_same =
      let some = whole_some a.absolute first in
      suffix_by (whole_digits a.absolute) (fraction_digits a.absolute) (ends_of (under one t) (whole_digits a.absolute)) (ends_of (under other t) (whole_digits a.absolute)) some
      (tens_down a.absolute.count 32768 (a.absolute.high - 32767)) (last_ends (under one t) (whole_digits a.absolute) some) (last_ends (under other t) (whole_digits a.absolute) some) number_same

  pub decimal_same : a ≡ b
  decimal_same =
      same_signed a b (signs_tell t a.sign b.sign readable (same_chars (prefix_for t a.sign) (prefix_for t b.sign) (prefix_utf8 t a.sign are) (prefix_utf8 t b.sign are) prefix_same)
      (same_chars (suffix_for t a.sign) (suffix_for t b.sign) (suffix_utf8 t a.sign are) (suffix_utf8 t b.sign are) suffix_same)) absolute_same

pub groupings_one : GroupingsHaveOneDecimal
groupings_one t one other a b are readable first second same =
    decimal_same t one other a b are readable first second
    (encodes_same (plain_chars (under one t) a) (plain_chars (under other t) b)
    (sym (encoded_decimal (under one t) a (are_under t one are) (whole_some a.absolute first)) ∙ same ∙ encoded_decimal (under other t) b (are_under t other are) (whole_some b.absolute second)))
