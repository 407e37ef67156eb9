-- The characters of a number: they begin and end with a digit, so what is around them is told, and is not trimmed with them.
use Rattle.std.proofs.Common.{◌≡◌, ℕ, zero, suc, ◌-◌, ◌<◌, ◌≤◌, Bool, true, false, cond, ◌&&◌, ◌==◌, List, [], ◌∷◌, ◌++◌, length, slice_index, is_none, refl, sym, ap, ◌∙◌, append_assoc, arith}
use Rattle.std.proofs.lemmas.Bool.{and_parts, false≢true, ne_eqb, true≢false}
use Rattle.std.proofs.lemmas.List.{append-nil}
use Rattle.std.specs.Char.{is_whitespace}
use Rattle.std.specs.Int.Digits.{AllBelowBase}
use Rattle.std.specs.Str.{chars, drop_trailing_whitespace, skip_leading_whitespace}
use Rattle.fixed_decimal.specs.Number.{IsNumber, Number, fraction_digits, whole_digits}
use Rattle.icu_decimal_lenient.specs.Folding.{plain_digits}
use Rattle.icu_decimal_plain.specs.Grouper.{marked}
use Rattle.icu_decimal_plain.specs.PlainText.{Tables}
use Rattle.icu_decimal_plain.proofs.PlainTextLemmas.{tens_down}
use Rattle.icu_decimal_reading.specs.Readable.{digit_of, is_readable_by}
use Rattle.icu_decimal_reading.specs.ReadingLaws.{AreTables}
use Rattle.icu_decimal_reading.proofs.PlainLemmas.{chars_of, ends_of, last_ends, whole_some}
use Rattle.icu_decimal_reading.proofs.ScanLemmas.{AreMarks, found, no_digits, number_chars, spelled_by}

-- ---- the first and the last digit

-- a digit of a table is first
pub record BeginsSo (ds cs : List ℕ) : Type 0 where
  pub digit : ℕ
  pub below : digit < 10
  pub rest : List ℕ
  pub same : cs ≡ slice_index ds digit ∷ rest

-- and one is last
pub record EndsSo (ds cs : List ℕ) : Type 0 where
  pub digit : ℕ
  pub below : digit < 10
  pub front : List ℕ
  pub same : cs ≡ front ++ slice_index ds digit ∷ []

ends_after : (ds xs ys : List ℕ) → EndsSo ds ys → EndsSo ds (xs ++ ys)
ends_after ds xs ys e = record {
  digit = e.digit;
  below = e.below;
  front = xs ++ e.front;
  same = ap (λ cs. xs ++ cs) e.same ∙ sym (append_assoc xs e.front (slice_index ds e.digit ∷ []));
}

ends_spelled : (ds : List ℕ) (v : ℕ) (vs : List ℕ) → AllBelowBase 10 (v ∷ vs) → EndsSo ds (spelled_by ds (v ∷ vs))
ends_spelled ds v [] tens = record { digit = v; below = tens.0; front = []; same = refl }
ends_spelled ds v (w ∷ ws) tens = ends_after ds (slice_index ds v ∷ []) (spelled_by ds (w ∷ ws)) (ends_spelled ds w ws tens.1)

last_gap : (ds group : List ℕ) (v : ℕ) (b : Bool) → b ≡ false → v < 10 → EndsSo ds (slice_index ds v ∷ (cond b group [] ++ []))
last_gap ds group v true last below = absurd (true≢false last)
last_gap ds group v false last below = record { digit = v; below = below; front = []; same = refl }

ends_marked : (ds group : List ℕ) (ends : ℕ → Bool) (v : ℕ) (vs : List ℕ) → ends 0 ≡ false → AllBelowBase 10 (v ∷ vs) → EndsSo ds (marked ends group (spelled_by ds (v ∷ vs)))
ends_marked ds group ends v [] last tens = last_gap ds group v (ends 0) last tens.0
ends_marked ds group ends v (w ∷ ws) last tens =
    ends_after ds (slice_index ds v ∷ cond (ends (length (spelled_by ds (w ∷ ws)))) group []) (marked ends group (spelled_by ds (w ∷ ws))) (ends_marked ds group ends w ws last tens.1)

without_fraction : (ds cs : List ℕ) → EndsSo ds cs → EndsSo ds (cs ++ [])
without_fraction ds cs e = record { digit = e.digit; below = e.below; front = e.front; same = append-nil cs ∙ e.same }

ends_number : (ds sep group : List ℕ) (ends : ℕ → Bool) (v : ℕ) (vs fraction : List ℕ) → ends 0 ≡ false → AllBelowBase 10 (v ∷ vs) → AllBelowBase 10 fraction
    → EndsSo ds (number_chars ends ds sep group (v ∷ vs) fraction)
ends_number ds sep group ends v vs [] last tens more = without_fraction ds (marked ends group (spelled_by ds (v ∷ vs))) (ends_marked ds group ends v vs last tens)
ends_number ds sep group ends v vs (w ∷ ws) last tens more =
    ends_after ds (marked ends group (spelled_by ds (v ∷ vs))) (sep ++ spelled_by ds (w ∷ ws)) (ends_after ds sep (spelled_by ds (w ∷ ws)) (ends_spelled ds w ws more))

-- both, of the characters of a number
pub record IsSpelled (ds cs : List ℕ) : Type 0 where
  pub begins : BeginsSo ds cs
  pub ends : EndsSo ds cs

pub number_is_spelled : (t : Tables) (n : Number) → AreTables t → is_readable_by t ≡ true → IsNumber n → IsSpelled t.digits (chars_of t n)
number_is_spelled t n are readable is =
    let some = whole_some n is in
    by (whole_digits n) some (tens_down n.count 32768 (n.high - 32767)) (last_ends t (whole_digits n) some)
  where
    sep : List ℕ
    sep = chars t.symbols.strings.decimal_separator

    group : List ℕ
    group = chars t.symbols.strings.grouping_separator

    by : (vs : List ℕ) → 0 < length vs → AllBelowBase 10 vs → ends_of t (whole_digits n) 0 ≡ false → IsSpelled t.digits (number_chars (ends_of t (whole_digits n)) t.digits sep group vs (fraction_digits n))
    by [] some tens last = absurd (omega (arith, some))
    by (v ∷ vs) some tens last = record {
      begins = record { digit = v; below = tens.0; rest = _; same = refl };
      ends = ends_number t.digits sep group (ends_of t (whole_digits n)) v vs (fraction_digits n) last tens (tens_down n.count n.low (32768 - n.low));
    }

-- ---- what is around them

head_same : (x y : ℕ) (xs ys : List ℕ) → x ∷ xs ≡ y ∷ ys → x ≡ y
head_same x y xs ys e = cc

tail_same : (x y : ℕ) (xs ys : List ℕ) → x ∷ xs ≡ y ∷ ys → xs ≡ ys
tail_same x y xs ys e = cc

-- a digit is no character without one
other_character : (ds : List ℕ) (x y : ℕ) → is_none (digit_of ds x) ≡ false → is_none (digit_of ds y) ≡ true → x ≡ y → ⊥
other_character ds x y digit none same = false≢true (sym digit ∙ ap (λ c. is_none (digit_of ds c)) same ∙ none)

no_digit_inside : (ds front rest : List ℕ) (x : ℕ) → no_digits ds (front ++ x ∷ rest) ≡ true → is_none (digit_of ds x) ≡ true
no_digit_inside ds [] rest x clear = (and_parts (is_none (digit_of ds x)) (no_digits ds rest) clear).0
no_digit_inside ds (c ∷ cs) rest x clear = no_digit_inside ds cs rest x (and_parts (is_none (digit_of ds c)) (no_digits ds (cs ++ x ∷ rest)) clear).1

fronts_same : (ds p q xs ys : List ℕ) (x y : ℕ) → no_digits ds p ≡ true → no_digits ds q ≡ true → is_none (digit_of ds x) ≡ false → is_none (digit_of ds y) ≡ false
    → p ++ x ∷ xs ≡ q ++ y ∷ ys → (p ≡ q) × (x ∷ xs ≡ y ∷ ys)
fronts_same ds [] [] xs ys x y first second one two same = (refl, same)
fronts_same ds [] (d ∷ q) xs ys x y first second one two same =
    absurd (other_character ds x d one (and_parts (is_none (digit_of ds d)) (no_digits ds q) second).0 (head_same x d xs (q ++ y ∷ ys) same))
fronts_same ds (c ∷ p) [] xs ys x y first second one two same =
    absurd (other_character ds y c two (and_parts (is_none (digit_of ds c)) (no_digits ds p) first).0 (sym (head_same c y (p ++ x ∷ xs) ys same)))
fronts_same ds (c ∷ p) (d ∷ q) xs ys x y first second one two same =
    let rest = fronts_same ds p q xs ys x y (and_parts (is_none (digit_of ds c)) (no_digits ds p) first).1 (and_parts (is_none (digit_of ds d)) (no_digits ds q) second).1 one two
    (tail_same c d (p ++ x ∷ xs) (q ++ y ∷ ys) same) in
    (ap (λ e. e ∷ p) (head_same c d (p ++ x ∷ xs) (q ++ y ∷ ys) same) ∙ ap (λ cs. d ∷ cs) rest.0, rest.1)

backs_same : (ds xs ys s r : List ℕ) (x y : ℕ) → no_digits ds s ≡ true → no_digits ds r ≡ true → is_none (digit_of ds x) ≡ false → is_none (digit_of ds y) ≡ false
    → xs ++ x ∷ s ≡ ys ++ y ∷ r → s ≡ r
backs_same ds [] [] s r x y first second one two same = tail_same x y s r same
backs_same ds [] (d ∷ ys) s r x y first second one two same =
    absurd (false≢true (sym two ∙ no_digit_inside ds ys r y (ap (no_digits ds) (sym (tail_same x d s (ys ++ y ∷ r) same)) ∙ first)))
backs_same ds (c ∷ xs) [] s r x y first second one two same =
    absurd (false≢true (sym one ∙ no_digit_inside ds xs s x (ap (no_digits ds) (tail_same c y (xs ++ x ∷ s) r same) ∙ second)))
backs_same ds (c ∷ xs) (d ∷ ys) s r x y first second one two same =
    backs_same ds xs ys s r x y first second one two (tail_same c d (xs ++ x ∷ s) (ys ++ y ∷ r) same)

is_digit : (ds sep group : List ℕ) (v : ℕ) → AreMarks ds sep group → v < 10 → is_none (digit_of ds (slice_index ds v)) ≡ false
is_digit ds sep group v marks below = ap is_none (found ds sep group v marks below)

-- two numbers between characters that are no digits
pub around_same : (ds sep group p q ns ms s r : List ℕ) → AreMarks ds sep group → IsSpelled ds ns → IsSpelled ds ms
    → no_digits ds p ≡ true → no_digits ds q ≡ true → no_digits ds s ≡ true → no_digits ds r ≡ true
    → p ++ (ns ++ s) ≡ q ++ (ms ++ r) → (p ≡ q) × (s ≡ r)
around_same ds sep group p q ns ms s r marks one two p_clear q_clear s_clear r_clear same =
    let x : ℕ = slice_index ds one.begins.digit in
    let y : ℕ = slice_index ds two.begins.digit in
    let front = fronts_same ds p q (one.begins.rest ++ s) (two.begins.rest ++ r) x y p_clear q_clear
    (is_digit ds sep group one.begins.digit marks one.begins.below) (is_digit ds sep group two.begins.digit marks two.begins.below)
    (ap (λ cs. p ++ (cs ++ s)) (sym one.begins.same) ∙ same ∙ ap (λ cs. q ++ (cs ++ r)) two.begins.same) in
    let whole : ns ++ s ≡ ms ++ r = ap (λ cs. cs ++ s) one.begins.same ∙ front.1 ∙ ap (λ cs. cs ++ r) (sym two.begins.same) in (
      front.0,
      backs_same ds one.ends.front two.ends.front s r (slice_index ds one.ends.digit) (slice_index ds two.ends.digit) s_clear r_clear
          (is_digit ds sep group one.ends.digit marks one.ends.below) (is_digit ds sep group two.ends.digit marks two.ends.below)
          (sym (append_assoc one.ends.front (slice_index ds one.ends.digit ∷ []) s) ∙ ap (λ cs. cs ++ s) (sym one.ends.same) ∙ whole
          ∙ ap (λ cs. cs ++ r) two.ends.same ∙ append_assoc two.ends.front (slice_index ds two.ends.digit ∷ []) r),
    )

-- ---- white space at the ends

no_space_at : (v : ℕ) → v < 10 → is_whitespace (slice_index plain_digits v) ≡ false
no_space_at zero below = refl
no_space_at (suc zero) below = refl
no_space_at (suc (suc zero)) below = refl
no_space_at (suc (suc (suc zero))) below = refl
no_space_at (suc (suc (suc (suc zero)))) below = refl
no_space_at (suc (suc (suc (suc (suc zero))))) below = refl
no_space_at (suc (suc (suc (suc (suc (suc zero)))))) below = refl
no_space_at (suc (suc (suc (suc (suc (suc (suc zero))))))) below = refl
no_space_at (suc (suc (suc (suc (suc (suc (suc (suc zero)))))))) below = refl
no_space_at (suc (suc (suc (suc (suc (suc (suc (suc (suc zero))))))))) below = refl
no_space_at (suc (suc (suc (suc (suc (suc (suc (suc (suc (suc v)))))))))) below = absurd (omega (arith, below))

skip_here : (c : ℕ) (cs : List ℕ) → is_whitespace c ≡ false → skip_leading_whitespace (c ∷ cs) ≡ c ∷ cs
skip_here c cs none = ap (λ b. cond b (skip_leading_whitespace cs) (c ∷ cs)) none

cond_length : (b : Bool) (n : ℕ) (xs ys : List ℕ) → length xs ≤ n → length ys ≤ n → length (cond b xs ys) ≤ n
cond_length true n xs ys first second = first
cond_length false n xs ys first second = second

skip_shorter : (cs : List ℕ) → length (skip_leading_whitespace cs) ≤ length cs
skip_shorter [] = omega arith
skip_shorter (c ∷ cs) = let rest = skip_shorter cs in cond_length (is_whitespace c) (length (c ∷ cs)) (skip_leading_whitespace cs) (c ∷ cs) (omega (arith, rest)) (omega arith)

-- a front that no white space is before
kept_first : (c : ℕ) (cs : List ℕ) → skip_leading_whitespace (c ∷ cs) ≡ c ∷ cs → is_whitespace c ≡ false
kept_first c cs kept = by (is_whitespace c) kept
  where
    by : (b : Bool) → cond b (skip_leading_whitespace cs) (c ∷ cs) ≡ c ∷ cs → b ≡ false
    by true same = let long : length (skip_leading_whitespace cs) ≡ length (c ∷ cs) = ap length same in let short = skip_shorter cs in absurd (omega (arith, long, short))
    by false same = refl

pub skip_none : (p rest : List ℕ) (c : ℕ) → skip_leading_whitespace p ≡ p → is_whitespace c ≡ false → skip_leading_whitespace (p ++ c ∷ rest) ≡ p ++ c ∷ rest
skip_none [] rest c kept none = skip_here c rest none
skip_none (d ∷ p) rest c kept none = skip_here d (p ++ c ∷ rest) (kept_first d p kept)

drop_here : (c : ℕ) (cs : List ℕ) → (is_whitespace c && length (drop_trailing_whitespace cs) == 0) ≡ false → drop_trailing_whitespace cs ≡ cs → drop_trailing_whitespace (c ∷ cs) ≡ c ∷ cs
drop_here c cs none kept = ap (λ b. cond b [] (c ∷ drop_trailing_whitespace cs)) none ∙ ap (λ ds. c ∷ ds) kept

no_blank : (a b : Bool) → b ≡ false → (a && b) ≡ false
no_blank true b none = none
no_blank false b none = refl

some_length : (xs ys : List ℕ) (c : ℕ) → (length (xs ++ c ∷ ys) == 0) ≡ false
some_length [] ys c = ne_eqb (length (c ∷ ys)) 0 (λ none. omega (arith, none))
some_length (x ∷ xs) ys c = ne_eqb (length (x ∷ (xs ++ c ∷ ys))) 0 (λ none. omega (arith, none))

pub drop_none : (xs s : List ℕ) (c : ℕ) → drop_trailing_whitespace s ≡ s → is_whitespace c ≡ false → drop_trailing_whitespace (xs ++ c ∷ s) ≡ xs ++ c ∷ s
drop_none [] s c kept none = drop_here c s (ap (λ b. b && length (drop_trailing_whitespace s) == 0) none) kept
drop_none (x ∷ xs) s c kept none =
    let rest = drop_none xs s c kept none in
    drop_here x (xs ++ c ∷ s) (no_blank (is_whitespace x) (length (drop_trailing_whitespace (xs ++ c ∷ s)) == 0) (ap (λ cs. length cs == 0) rest ∙ some_length xs s c)) rest

-- a number of ASCII digits between two ends without white space
pub skip_number : (p ns s : List ℕ) → IsSpelled plain_digits ns → skip_leading_whitespace p ≡ p → skip_leading_whitespace (p ++ (ns ++ s)) ≡ p ++ (ns ++ s)
skip_number p ns s is kept =
    let c : ℕ = slice_index plain_digits is.begins.digit in
    let shape : p ++ (ns ++ s) ≡ p ++ c ∷ (is.begins.rest ++ s) = ap (λ cs. p ++ (cs ++ s)) is.begins.same in
    ap skip_leading_whitespace shape ∙ skip_none p (is.begins.rest ++ s) c kept (no_space_at is.begins.digit is.begins.below) ∙ sym shape

pub drop_number : (p ns s : List ℕ) → IsSpelled plain_digits ns → drop_trailing_whitespace s ≡ s → drop_trailing_whitespace (p ++ (ns ++ s)) ≡ p ++ (ns ++ s)
drop_number p ns s is kept =
    let c : ℕ = slice_index plain_digits is.ends.digit in
    let shape : p ++ (ns ++ s) ≡ (p ++ is.ends.front) ++ c ∷ s =
    ap (λ cs. p ++ (cs ++ s)) is.ends.same ∙ ap (λ cs. p ++ cs) (append_assoc is.ends.front (c ∷ []) s) ∙ sym (append_assoc p is.ends.front (c ∷ s)) in
    ap drop_trailing_whitespace shape ∙ drop_none (p ++ is.ends.front) s c kept (no_space_at is.ends.digit is.ends.below) ∙ sym shape
