-- Texts before numbers at one place of one text clash, and so do texts after them, read from behind.
use Rattle.std.proofs.Common.{◌≡◌, ◌==◌, ℕ, ◌-◌, Bool, true, false, ◌||◌, cond, List, [], ◌∷◌, ◌++◌, length, reverse, slice_index, is_none, is_some, Option, None, Some, refl, sym, ap, subst, ◌∙◌, ◌<◌, arith}
use Rattle.std.proofs.lemmas.Bool.{and_from, eq-eqb, false≢true}
use Rattle.std.proofs.lemmas.List.{append-nil, append_assoc, reverse-append}
use Rattle.std.specs.Int.Digits.{AllBelowBase}
use Rattle.std.specs.Str.{chars}
use Rattle.std.proofs.lemmas.Str.{chars-nil, chars_from_encodes}
use Rattle.fixed_decimal.specs.Number.{IsNumber, Number, fraction_digits, whole_digits}
use Rattle.fixed_decimal.specs.SignedValue.{SignedValue}
use Rattle.fixed_decimal.specs.TextLaws.{IsDecimal}
use Rattle.fixed_decimal.specs.declared.Sign.{Sign}
use Rattle.fixed_decimal.specs.declared.Sign.TheVariants.{None as NoSign, Negative, Positive}
use Rattle.icu_decimal_plain.specs.Grouper.{marked}
use Rattle.icu_decimal_plain.specs.PlainText.{Tables, decimal_text}
use Rattle.icu_decimal_plain.proofs.PlainTextLemmas.{tens_down}
use Rattle.icu_decimal_reading.specs.Readable.{digit_of, is_readable_by}
use Rattle.icu_decimal_reading.specs.ReadingLaws.{AreTables}
use Rattle.icu_decimal_reading.proofs.PlainLemmas.{chars_of, decimal_utf8, digit_first, encoded_decimal, ends_of, last_ends, marks_of, plain_chars, prefix_for, suffix_for, whole_some}
use Rattle.icu_decimal_reading.proofs.ScanLemmas.{found, fraction_chars, spelled_by}
use Rattle.icu_dimension_words.specs.WordsReading.{begins, ends, is_first, may_clash}

-- ---- lists

head_or : ℕ → List ℕ → ℕ
head_or d [] = d
head_or d (x ∷ xs) = x

tail_of : List ℕ → List ℕ
tail_of [] = []
tail_of (x ∷ xs) = xs

heads : (c d : ℕ) (x y : List ℕ) → c ∷ x ≡ d ∷ y → c ≡ d
unfolding head_or
heads c d x y e = ap (head_or c) e

tails : (c d : ℕ) (x y : List ℕ) → c ∷ x ≡ d ∷ y → x ≡ y
unfolding tail_of
tails c d x y e = ap tail_of e

-- both texts go on with a character of a number
pub both_go_on : (good : ℕ → Bool) (p q x y : List ℕ) (n m : ℕ) → good n ≡ true → good m ≡ true → p ++ n ∷ x ≡ q ++ m ∷ y → may_clash good p q ≡ true
both_go_on good [] [] x y n m gn gm e = refl
both_go_on good [] (d ∷ q) x y n m gn gm e = ap good (sym (heads n d x (q ++ m ∷ y) e)) ∙ gn
both_go_on good (c ∷ p) [] x y n m gn gm e = ap good (heads c m (p ++ n ∷ x) y e) ∙ gm
both_go_on good (c ∷ p) (d ∷ q) x y n m gn gm e =
    and_from (c == d) (may_clash good p q) (eq-eqb c d (heads c d (p ++ n ∷ x) (q ++ m ∷ y) e)) (both_go_on good p q x y n m gn gm (tails c d (p ++ n ∷ x) (q ++ m ∷ y) e))

-- only the second one does, and the first one is all
pub second_goes_on : (good : ℕ → Bool) (b q y : List ℕ) (m : ℕ) → good m ≡ true → b ≡ q ++ m ∷ y → may_clash good b q ≡ true
second_goes_on good [] [] y m gm e = refl
second_goes_on good [] (d ∷ q) y m gm e = absurd (none_left e)
  where
    is_empty : List ℕ → Bool
    is_empty [] = true
    is_empty (x ∷ xs) = false

    none_left : [] ≡ d ∷ (q ++ m ∷ y) → ⊥
    none_left none = false≢true (sym (ap is_empty none))
second_goes_on good (c ∷ b) [] y m gm e = ap good (heads c m b y e) ∙ gm
second_goes_on good (c ∷ b) (d ∷ q) y m gm e =
    and_from (c == d) (may_clash good b q) (eq-eqb c d (heads c d b (q ++ m ∷ y) e)) (second_goes_on good b q y m gm (tails c d b (q ++ m ∷ y) e))

pub first_goes_on : (good : ℕ → Bool) (p b x : List ℕ) (n : ℕ) → good n ≡ true → p ++ n ∷ x ≡ b → may_clash good p b ≡ true
first_goes_on good [] [] x n gn e = refl
first_goes_on good [] (d ∷ b) x n gn e = ap good (sym (heads n d x b e)) ∙ gn
first_goes_on good (c ∷ p) [] x n gn e = absurd (some_left e)
  where
    is_empty : List ℕ → Bool
    is_empty [] = true
    is_empty (x ∷ xs) = false

    some_left : c ∷ (p ++ n ∷ x) ≡ [] → ⊥
    some_left none = false≢true (ap is_empty none)
first_goes_on good (c ∷ p) (d ∷ b) x n gn e =
    and_from (c == d) (may_clash good p b) (eq-eqb c d (heads c d (p ++ n ∷ x) b e)) (first_goes_on good p b x n gn (tails c d (p ++ n ∷ x) b e))

-- a text and itself
pub same_clashes : (good : ℕ → Bool) (p : List ℕ) → may_clash good p p ≡ true
same_clashes good [] = refl
same_clashes good (c ∷ p) = and_from (c == c) (may_clash good p p) (eq-eqb c c refl) (same_clashes good p)

-- ---- the first and the last character of a number

-- characters that begin with one of a kind
pub record StartsWith (good : ℕ → Bool) (cs : List ℕ) : Type 0 where
  pub first : ℕ
  pub rest : List ℕ
  pub same : cs ≡ first ∷ rest
  pub is_good : good first ≡ true

or_first : (a b : Bool) → a ≡ true → (a || b) ≡ true
or_first true b e = refl
or_first false b e = absurd (false≢true e)

or_second : (a b : Bool) → b ≡ true → (a || b) ≡ true
or_second true b e = refl
or_second false b e = e

some_digit : (o : Option ℕ) → is_none o ≡ false → is_some o ≡ true
some_digit None none = absurd (false≢true (sym none))
some_digit (Some d) none = refl

-- a number begins with a digit, or with what is before it
starts_by : (good : ℕ → Bool) (front inner : List ℕ) → ((c : ℕ) → is_first c front ≡ true → good c ≡ true) → StartsWith good inner → StartsWith good (front ++ inner)
starts_by good [] inner of_front start = start
starts_by good (c ∷ cs) inner of_front start = record { first = c; rest = cs ++ inner; same = refl; is_good = of_front c (eq-eqb c c refl) }

-- and more after it
starts_longer : (good : ℕ → Bool) (inner more : List ℕ) → StartsWith good inner → StartsWith good (inner ++ more)
starts_longer good inner more start = record { first = start.first; rest = start.rest ++ more; same = ap (λ cs. cs ++ more) start.same; is_good = start.is_good }

module _ (t : Tables) where
  prefix_begins : (sign : Sign) (c : ℕ) → is_first c (chars (prefix_for t sign)) ≡ true → begins t c ≡ true
  prefix_begins NoSign c is = absurd (false≢true (sym (ap (is_first c) chars-nil) ∙ is))
  prefix_begins Negative c is = or_second (is_some (digit_of t.digits c)) _ (or_first (is_first c (chars t.symbols.strings.minus_sign_prefix)) _ is)
  prefix_begins Positive c is = or_second (is_some (digit_of t.digits c)) _ (or_second (is_first c (chars t.symbols.strings.minus_sign_prefix)) _ is)

  suffix_ends : (sign : Sign) (c : ℕ) → is_first c (reverse (chars (suffix_for t sign))) ≡ true → ends t c ≡ true
  suffix_ends NoSign c is = absurd (false≢true (sym (ap (λ cs. is_first c (reverse cs)) chars-nil) ∙ is))
  suffix_ends Negative c is = or_second (is_some (digit_of t.digits c)) _ (or_first (is_first c (reverse (chars t.symbols.strings.minus_sign_suffix))) _ is)
  suffix_ends Positive c is = or_second (is_some (digit_of t.digits c)) _ (or_second (is_first c (reverse (chars t.symbols.strings.minus_sign_suffix))) _ is)

  number_begins : (v : SignedValue Number) → AreTables t → is_readable_by t ≡ true → IsDecimal v → StartsWith (begins t) (plain_chars t v)
  number_begins v are readable is =
      let start = digit_first t v.absolute are readable is in
      let digit : begins t start.first ≡ true = or_first (is_some (digit_of t.digits start.first)) _ (some_digit (digit_of t.digits start.first) start.digit) in
      starts_by (begins t) (chars (prefix_for t v.sign)) (chars_of t v.absolute ++ chars (suffix_for t v.sign)) (prefix_begins v.sign)
      (starts_longer (begins t) (chars_of t v.absolute) (chars (suffix_for t v.sign)) (record { first = start.first; rest = start.rest; same = start.same; is_good = digit }))

-- ---- the last one

-- from behind, what is last comes first
last_after : (good : ℕ → Bool) (xs ys : List ℕ) → StartsWith good (reverse ys) → StartsWith good (reverse (xs ++ ys))
last_after good xs ys start = subst (StartsWith good) (sym (reverse-append xs ys)) (starts_longer good (reverse ys) (reverse xs) start)

last_spelled : (t : Tables) (vs : List ℕ) → AreTables t → is_readable_by t ≡ true → 0 < length vs → AllBelowBase 10 vs → StartsWith (ends t) (reverse (spelled_by t.digits vs))
last_spelled t [] are readable some tens = absurd (omega (arith, some))
last_spelled t (v ∷ []) are readable some tens = record {
  first = slice_index t.digits v;
  rest = [];
  same = refl;
  is_good = or_first (is_some (digit_of t.digits (slice_index t.digits v))) _ (ap is_some (found t.digits (chars t.symbols.strings.decimal_separator) (chars t.symbols.strings.grouping_separator) v (marks_of t are readable) tens.0));
}
last_spelled t (v ∷ w ∷ ws) are readable some tens =
    last_after (ends t) (slice_index t.digits v ∷ []) (spelled_by t.digits (w ∷ ws)) (last_spelled t (w ∷ ws) are readable (omega arith) tens.1)

last_gap : (b : Bool) (group : List ℕ) → b ≡ false → cond b group [] ++ [] ≡ []
last_gap true group none = absurd (false≢true (sym none))
last_gap false group none = refl

last_marked : (t : Tables) (end : ℕ → Bool) (group vs : List ℕ) → AreTables t → is_readable_by t ≡ true → 0 < length vs → AllBelowBase 10 vs → end 0 ≡ false → StartsWith (ends t) (reverse (marked end group (spelled_by t.digits vs)))
last_marked t end group [] are readable some tens none = absurd (omega (arith, some))
last_marked t end group (v ∷ []) are readable some tens none =
    subst (λ cs. StartsWith (ends t) (reverse (slice_index t.digits v ∷ cs))) (sym (last_gap (end 0) group none)) (last_spelled t (v ∷ []) are readable some tens)
last_marked t end group (v ∷ w ∷ ws) are readable some tens none =
    last_after (ends t) (slice_index t.digits v ∷ cond (end (length (spelled_by t.digits (w ∷ ws)))) group []) (marked end group (spelled_by t.digits (w ∷ ws)))
    (last_marked t end group (w ∷ ws) are readable (omega arith) tens.1 none)

last_fraction : (t : Tables) (whole sep fraction : List ℕ) → AreTables t → is_readable_by t ≡ true → AllBelowBase 10 fraction → StartsWith (ends t) (reverse whole) → StartsWith (ends t) (reverse (whole ++ fraction_chars t.digits sep fraction))
last_fraction t whole sep [] are readable tens start = subst (λ cs. StartsWith (ends t) (reverse cs)) (sym (append-nil whole)) start
last_fraction t whole sep (v ∷ vs) are readable tens start =
    last_after (ends t) whole (sep ++ spelled_by t.digits (v ∷ vs)) (last_after (ends t) sep (spelled_by t.digits (v ∷ vs)) (last_spelled t (v ∷ vs) are readable (omega arith) tens))

last_digit : (t : Tables) (n : Number) → AreTables t → is_readable_by t ≡ true → IsNumber n → StartsWith (ends t) (reverse (chars_of t n))
last_digit t n are readable is =
    last_fraction t (marked (ends_of t (whole_digits n)) (chars t.symbols.strings.grouping_separator) (spelled_by t.digits (whole_digits n))) (chars t.symbols.strings.decimal_separator) (fraction_digits n) are readable (tens_down n.count n.low (32768 - n.low))
    (last_marked t (ends_of t (whole_digits n)) (chars t.symbols.strings.grouping_separator) (whole_digits n) are readable (whole_some n is) (tens_down n.count 32768 (n.high - 32767)) (last_ends t (whole_digits n) (whole_some n is)))

-- the characters of a decimal from behind
turned : (xs ys zs : List ℕ) → reverse (xs ++ (ys ++ zs)) ≡ reverse zs ++ (reverse ys ++ reverse xs)
turned xs ys zs = reverse-append xs (ys ++ zs) ∙ ap (λ l. l ++ reverse xs) (reverse-append ys zs) ∙ append_assoc (reverse zs) (reverse ys) (reverse xs)

number_ends : (t : Tables) (v : SignedValue Number) → AreTables t → is_readable_by t ≡ true → IsDecimal v → StartsWith (ends t) (reverse (plain_chars t v))
number_ends t v are readable is =
    let prefix : List ℕ = chars (prefix_for t v.sign) in
    let inner : List ℕ = chars_of t v.absolute in
    let suffix : List ℕ = chars (suffix_for t v.sign) in
    subst (StartsWith (ends t)) (sym (turned prefix inner suffix))
    (starts_by (ends t) (reverse suffix) (reverse inner ++ reverse prefix) (suffix_ends t v.sign) (starts_longer (ends t) (reverse inner) (reverse prefix) (last_digit t v.absolute are readable is)))

-- ---- its text

pub decimal_chars : (t : Tables) (v : SignedValue Number) → AreTables t → IsDecimal v → chars (decimal_text t v) ≡ plain_chars t v
decimal_chars t v are is =
    sym (chars_from_encodes (plain_chars t v) (decimal_text t v) (decimal_utf8 t v are is) (sym (encoded_decimal t v are (whole_some v.absolute is))))

pub text_begins : (t : Tables) (v : SignedValue Number) → AreTables t → is_readable_by t ≡ true → IsDecimal v → StartsWith (begins t) (chars (decimal_text t v))
text_begins t v are readable is = subst (StartsWith (begins t)) (sym (decimal_chars t v are is)) (number_begins t v are readable is)

pub text_ends : (t : Tables) (v : SignedValue Number) → AreTables t → is_readable_by t ≡ true → IsDecimal v → StartsWith (ends t) (reverse (chars (decimal_text t v)))
text_ends t v are readable is = subst (λ cs. StartsWith (ends t) (reverse cs)) (sym (decimal_chars t v are is)) (number_ends t v are readable is)
