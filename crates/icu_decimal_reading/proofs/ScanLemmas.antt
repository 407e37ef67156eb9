-- The digits of a number's text, whatever is between them: each of them once, and the point where the decimal separator is.
use Rattle.std.proofs.Common.{◌≡◌, ℕ, zero, suc, ◌<◌, ◌≤◌, Bool, true, false, cond, ◌&&◌, ◌==◌, nat_lt, List, [], ◌∷◌, ◌++◌, length, map, slice_index, Option, None, Some, is_some, is_none, refl, sym, ap, ◌∙◌, append_assoc, arith}
use Rattle.std.specs.List.{list_all, cons_option, filter_map, position_or_len}
use Rattle.std.specs.Int.Digits.{AllBelowBase}
use Rattle.std.proofs.lemmas.Bool.{false≢true, eq-eqb, ne_eqb, eqb-true, and_left, and_right, and_from, and_parts, ltb-false, ltb-true, lt-ltb}
use Rattle.std.proofs.lemmas.List.{append-nil}
use Rattle.std.proofs.lemmas.List.Sums.{fails_before_first, position_or_len_is}
use Rattle.fixed_decimal.specs.NumberText.{character}
use Rattle.icu_decimal_reading.specs.PlainReading.{begins_fraction, digits_of_text, whole_then, whole_in, fraction_then, fraction_in}
use Rattle.icu_decimal_reading.specs.Readable.{digit_of, all_differ}
use Rattle.icu_decimal_plain.specs.Grouper.{marked}

-- none of these characters is a digit
abbrev pub no_digits : List ℕ → List ℕ → Bool
no_digits digits cs = list_all (λ c. is_none (digit_of digits c)) cs

-- ---- digits of a table

pub none_is : (o : Option ℕ) → is_none o ≡ true → o ≡ None
none_is None e = refl
none_is (Some d) e = absurd (false≢true e)

no_some : (o : Option ℕ) → is_none o ≡ true → is_some o ≡ true → ⊥
no_some None n s = false≢true s
no_some (Some d) n s = false≢true n

some_is : (o : Option ℕ) → is_none o ≡ true → is_some o ≡ false
some_is None e = refl
some_is (Some d) e = absurd (false≢true e)

far_by : (b : Bool) (n : ℕ) → is_none (cond b (Some n) None) ≡ true → b ≡ false
far_by true n none = absurd (false≢true none)
far_by false n none = refl

-- what is not found is no element
absent : (ds : List ℕ) (x i : ℕ) → is_none (digit_of ds x) ≡ true → i < length ds → (slice_index ds i == x) ≡ false
absent ds x i none near =
    let place = position_or_len (λ e. e == x) ds in
    let far : length ds ≤ place = ltb-false place (length ds) (far_by (nat_lt place (length ds)) place none) in
    fails_before_first (λ e. e == x) ds i 0 (omega (arith, far, near))

-- two places of a table have two digits
apart : (ds : List ℕ) (k i : ℕ) → all_differ ds ≡ true → k < i → i < length ds → (slice_index ds k == slice_index ds i) ≡ false
apart [] k i differ less near = absurd (omega (arith, near))
apart (d ∷ ds) k zero differ less near = absurd (omega (arith, less))
apart (d ∷ ds) zero (suc i) differ less near =
    let parts = and_parts (is_none (digit_of ds d)) (all_differ ds) differ in
    let other : (slice_index ds i == d) ≡ false = absent ds d i parts.0 (omega (arith, near)) in
    ne_eqb d (slice_index ds i) (λ same. false≢true (sym other ∙ eq-eqb (slice_index ds i) d (sym same)))
apart (d ∷ ds) (suc k) (suc i) differ less near =
    let parts = and_parts (is_none (digit_of ds d)) (all_differ ds) differ in
    apart ds k i parts.1 (omega (arith, less)) (omega (arith, near))

at_by : (b : Bool) (n i : ℕ) → n ≡ i → b ≡ true → cond b (Some n) None ≡ Some i
at_by true n i same b = ap Some same
at_by false n i same b = absurd (false≢true b)

-- a digit is found at its place
pub digit_at : (ds : List ℕ) (i : ℕ) → all_differ ds ≡ true → i < length ds → digit_of ds (slice_index ds i) ≡ Some i
digit_at ds i differ near =
    let test : ℕ → Bool = λ e. e == slice_index ds i in
    let place : position_or_len test ds ≡ i = position_or_len_is test ds i 0 (omega (arith, near)) (λ k less. apart ds k i differ less near) (λ _. eq-eqb (slice_index ds i) (slice_index ds i) refl) in
    at_by (nat_lt (position_or_len test ds) (length ds)) (position_or_len test ds) i place (lt-ltb (position_or_len test ds) (length ds) (omega (arith, place, near)))

-- and is the place of what is there
pub digit_here : (ds : List ℕ) (i c : ℕ) → all_differ ds ≡ true → i < length ds → slice_index ds i ≡ c → Some i ≡ digit_of ds c
digit_here ds i c differ near is = sym (ap (digit_of ds) (sym is) ∙ digit_at ds i differ near)

within_by : (b : Bool) (n i d : ℕ) → (b ≡ true → n < i) → cond b (Some n) None ≡ Some d → d < i
within_by true n i d below is = let same : n ≡ d = some_same n d is in let less = below refl in omega (arith, same, less)
  where
    out : Option ℕ → ℕ
    out None = 0
    out (Some k) = k

    some_same : (a b : ℕ) → Some a ≡ Some b → a ≡ b
    some_same a b e = ap out e
within_by false n i d below is = absurd (no_such d is)
  where
    tells : Option ℕ → Bool
    tells None = false
    tells (Some k) = true

    no_such : (b : ℕ) → None ≡ Some b → ⊥
    no_such b e = false≢true (ap tells e)

-- and is below their count
pub digit_below : (ds : List ℕ) (c d : ℕ) → digit_of ds c ≡ Some d → d < length ds
digit_below ds c d is =
    let place = position_or_len (λ e. e == c) ds in
    within_by (nat_lt place (length ds)) place (length ds) d (λ b. ltb-true place (length ds) b) is

-- ---- what is between digits

pub skip_whole : (ds sep p rest : List ℕ) → no_digits ds p ≡ true → whole_in ds sep (p ++ rest) ≡ whole_in ds sep rest
skip_whole ds sep [] rest clear = refl
skip_whole ds sep (c ∷ cs) rest clear =
    let parts = and_parts (is_none (digit_of ds c)) (no_digits ds cs) clear in
    ap (λ o. whole_then o (begins_fraction ds sep (cs ++ rest)) (whole_in ds sep (cs ++ rest))) (none_is (digit_of ds c) parts.0) ∙ skip_whole ds sep cs rest parts.1

pub skip_fraction : (ds sep p rest : List ℕ) → no_digits ds p ≡ true → fraction_in ds sep (p ++ rest) ≡ fraction_in ds sep rest
skip_fraction ds sep [] rest clear = refl
skip_fraction ds sep (c ∷ cs) rest clear =
    let parts = and_parts (is_none (digit_of ds c)) (no_digits ds cs) clear in
    ap (λ o. fraction_then o (begins_fraction ds sep (cs ++ rest)) (digits_of_text ds (cs ++ rest)) (fraction_in ds sep (cs ++ rest))) (none_is (digit_of ds c) parts.0)
    ∙ skip_fraction ds sep cs rest parts.1

-- a digit or none before others
cons_digit : Option ℕ → List ℕ → List ℕ
cons_digit None rest = rest
cons_digit (Some d) rest = character d ∷ rest

digits_more : (ds cs : List ℕ) (c : ℕ) (o : Option ℕ) → digit_of ds c ≡ o → digits_of_text ds (c ∷ cs) ≡ cons_digit o (digits_of_text ds cs)
unfolding cons_digit
digits_more ds cs c o is = by (digit_of ds c) ∙ ap (λ p. cons_digit p (digits_of_text ds cs)) is
  where
    by : (p : Option ℕ) → map character (cons_option p (filter_map (digit_of ds) cs)) ≡ cons_digit p (digits_of_text ds cs)
    by None = refl
    by (Some d) = refl

pub skip_digits : (ds p rest : List ℕ) → no_digits ds p ≡ true → digits_of_text ds (p ++ rest) ≡ digits_of_text ds rest
unfolding cons_digit
skip_digits ds [] rest clear = refl
skip_digits ds (c ∷ cs) rest clear =
    let parts = and_parts (is_none (digit_of ds c)) (no_digits ds cs) clear in
    digits_more ds (cs ++ rest) c None (none_is (digit_of ds c) parts.0) ∙ skip_digits ds cs rest parts.1

pub none_whole : (ds sep p : List ℕ) → no_digits ds p ≡ true → whole_in ds sep p ≡ []
none_whole ds sep p clear = ap (whole_in ds sep) (sym (append-nil p)) ∙ skip_whole ds sep p [] clear

pub none_fraction : (ds sep p : List ℕ) → no_digits ds p ≡ true → fraction_in ds sep p ≡ []
none_fraction ds sep p clear = ap (fraction_in ds sep) (sym (append-nil p)) ∙ skip_fraction ds sep p [] clear

pub none_digits : (ds p : List ℕ) → no_digits ds p ≡ true → digits_of_text ds p ≡ []
none_digits ds p clear = ap (digits_of_text ds) (sym (append-nil p)) ∙ skip_digits ds p [] clear

-- ---- where a fraction begins

pub begins_none : (ds sep cs : List ℕ) → no_digits ds cs ≡ true → begins_fraction ds sep cs ≡ false
begins_none ds [] [] clear = refl
begins_none ds [] (c ∷ cs) clear = let parts = and_parts (is_none (digit_of ds c)) (no_digits ds cs) clear in some_is (digit_of ds c) parts.0
begins_none ds (p ∷ ps) [] clear = refl
begins_none ds (p ∷ ps) (c ∷ cs) clear =
    let parts = and_parts (is_none (digit_of ds c)) (no_digits ds cs) clear in and_right (p == c) _ (begins_none ds ps cs parts.1)

pub begins_same : (ds sep rest : List ℕ) (x : ℕ) → is_some (digit_of ds x) ≡ true → begins_fraction ds sep (sep ++ x ∷ rest) ≡ true
begins_same ds [] rest x some = some
begins_same ds (p ∷ ps) rest x some = and_from (p == p) _ (eq-eqb p p refl) (begins_same ds ps rest x some)

and_by : (a b : Bool) → (a ≡ true → b ≡ false) → (a && b) ≡ false
and_by true b then = then refl
and_by false b then = refl

pub begins_other : (ds sep gap rest : List ℕ) (x : ℕ) → no_digits ds sep ≡ true → no_digits ds gap ≡ true → is_some (digit_of ds x) ≡ true → (sep ≡ gap → ⊥) → begins_fraction ds sep (gap ++ x ∷ rest) ≡ false
begins_other ds [] [] rest x clear gap_clear some other = absurd (other refl)
begins_other ds [] (c ∷ cs) rest x clear gap_clear some other =
    let parts = and_parts (is_none (digit_of ds c)) (no_digits ds cs) gap_clear in some_is (digit_of ds c) parts.0
begins_other ds (p ∷ ps) [] rest x clear gap_clear some other =
    let parts = and_parts (is_none (digit_of ds p)) (no_digits ds ps) clear in
    and_left (p == x) _ (ne_eqb p x (λ same. no_some (digit_of ds p) parts.0 (ap (λ c. is_some (digit_of ds c)) same ∙ some)))
begins_other ds (p ∷ ps) (c ∷ cs) rest x clear gap_clear some other =
    let parts = and_parts (is_none (digit_of ds p)) (no_digits ds ps) clear in
    let gap_parts = and_parts (is_none (digit_of ds c)) (no_digits ds cs) gap_clear in
    and_by (p == c) _ (λ same. begins_other ds ps cs rest x parts.1 gap_parts.1 some (λ rest_same. other (ap (λ a. a ∷ ps) (eqb-true p c same) ∙ ap (λ es. c ∷ es) rest_same)))

-- ---- a number's text

-- what holds of a table, a decimal separator and a grouping separator
pub record AreMarks (ds sep group : List ℕ) : Type 0 where
  pub differ : all_differ ds ≡ true
  pub ten : length ds ≡ 10
  pub point : no_digits ds sep ≡ true
  pub between : no_digits ds group ≡ true
  pub some : sep ≡ [] → ⊥
  pub other : sep ≡ group → ⊥

-- the characters of digits
abbrev pub spelled_by : List ℕ → List ℕ → List ℕ
spelled_by ds vs = map (slice_index ds) vs

pub found : (ds sep group : List ℕ) (v : ℕ) → AreMarks ds sep group → v < 10 → digit_of ds (slice_index ds v) ≡ Some v
found ds sep group v marks ten = digit_at ds v marks.differ (omega (arith, ten, marks.ten))

no_point_between : (ds sep group rest : List ℕ) (b : Bool) (x : ℕ) → AreMarks ds sep group → is_some (digit_of ds x) ≡ true → begins_fraction ds sep (cond b group [] ++ x ∷ rest) ≡ false
no_point_between ds sep group rest true x marks some = begins_other ds sep group rest x marks.point marks.between some marks.other
no_point_between ds sep group rest false x marks some = begins_other ds sep [] rest x marks.point refl some marks.some

gap_clear : (ds sep group : List ℕ) (b : Bool) → AreMarks ds sep group → no_digits ds (cond b group []) ≡ true
gap_clear ds sep group true marks = marks.between
gap_clear ds sep group false marks = refl

last_by : (b : Bool) (d : ℕ) (rest : List ℕ) → (b ≡ false → rest ≡ []) → whole_then (Some d) b rest ≡ character d ∷ []
last_by true d rest none = refl
last_by false d rest none = ap (λ cs. character d ∷ cs) (none refl)

-- the digits of groups, before what holds no more of them
pub whole_read : (ds sep group rest : List ℕ) (ends : ℕ → Bool) (v : ℕ) (vs : List ℕ) → AreMarks ds sep group → ends 0 ≡ false → AllBelowBase 10 (v ∷ vs)
    → (begins_fraction ds sep rest ≡ false → whole_in ds sep rest ≡ []) → whole_in ds sep (marked ends group (spelled_by ds (v ∷ vs)) ++ rest) ≡ map character (v ∷ vs)
whole_read ds sep group rest ends v [] marks last tens none =
    ap (λ b. whole_in ds sep ((slice_index ds v ∷ (cond b group [] ++ [])) ++ rest)) last
    ∙ ap (λ o. whole_then o (begins_fraction ds sep rest) (whole_in ds sep rest)) (found ds sep group v marks tens.0)
    ∙ last_by (begins_fraction ds sep rest) v (whole_in ds sep rest) none
whole_read ds sep group rest ends v (w ∷ ws) marks last tens none =
    let gap : List ℕ = cond (ends (length (spelled_by ds (w ∷ ws)))) group [] in
    let inner : List ℕ = marked ends group (spelled_by ds (w ∷ ws)) ++ rest in
    let some : is_some (digit_of ds (slice_index ds w)) ≡ true = ap is_some (found ds sep group w marks tens.1.0) in
    ap (λ cs. whole_in ds sep (slice_index ds v ∷ cs)) (append_assoc gap (marked ends group (spelled_by ds (w ∷ ws))) rest)
    ∙ ap (λ o. whole_then o (begins_fraction ds sep (gap ++ inner)) (whole_in ds sep (gap ++ inner))) (found ds sep group v marks tens.0)
    ∙ ap (λ b. whole_then (Some v) b (whole_in ds sep (gap ++ inner))) (no_point_between ds sep group _ (ends (length (spelled_by ds (w ∷ ws)))) (slice_index ds w) marks some)
    ∙ ap (λ cs. character v ∷ cs) (skip_whole ds sep gap inner (gap_clear ds sep group (ends (length (spelled_by ds (w ∷ ws)))) marks))
    ∙ ap (λ cs. character v ∷ cs) (whole_read ds sep group rest ends w ws marks last tens.1 none)

-- the fraction after groups
pub fraction_read : (ds sep group rest : List ℕ) (ends : ℕ → Bool) (v : ℕ) (vs : List ℕ) → AreMarks ds sep group → ends 0 ≡ false → AllBelowBase 10 (v ∷ vs)
    → fraction_in ds sep (marked ends group (spelled_by ds (v ∷ vs)) ++ rest) ≡ fraction_then (Some 0) (begins_fraction ds sep rest) (digits_of_text ds rest) (fraction_in ds sep rest)
fraction_read ds sep group rest ends v [] marks last tens =
    ap (λ b. fraction_in ds sep ((slice_index ds v ∷ (cond b group [] ++ [])) ++ rest)) last
    ∙ ap (λ o. fraction_then o (begins_fraction ds sep rest) (digits_of_text ds rest) (fraction_in ds sep rest)) (found ds sep group v marks tens.0)
    ∙ same_digit (begins_fraction ds sep rest)
  where
    same_digit : (b : Bool) → fraction_then (Some v) b (digits_of_text ds rest) (fraction_in ds sep rest) ≡ fraction_then (Some 0) b (digits_of_text ds rest) (fraction_in ds sep rest)
    same_digit true = refl
    same_digit false = refl
fraction_read ds sep group rest ends v (w ∷ ws) marks last tens =
    let gap : List ℕ = cond (ends (length (spelled_by ds (w ∷ ws)))) group [] in
    let inner : List ℕ = marked ends group (spelled_by ds (w ∷ ws)) ++ rest in
    let some : is_some (digit_of ds (slice_index ds w)) ≡ true = ap is_some (found ds sep group w marks tens.1.0) in
    ap (λ cs. fraction_in ds sep (slice_index ds v ∷ cs)) (append_assoc gap (marked ends group (spelled_by ds (w ∷ ws))) rest)
    ∙ ap (λ o. fraction_then o (begins_fraction ds sep (gap ++ inner)) (digits_of_text ds (gap ++ inner)) (fraction_in ds sep (gap ++ inner))) (found ds sep group v marks tens.0)
    ∙ ap (λ b. fraction_then (Some v) b (digits_of_text ds (gap ++ inner)) (fraction_in ds sep (gap ++ inner))) (no_point_between ds sep group _ (ends (length (spelled_by ds (w ∷ ws)))) (slice_index ds w) marks some)
    ∙ skip_fraction ds sep gap inner (gap_clear ds sep group (ends (length (spelled_by ds (w ∷ ws)))) marks)
    ∙ fraction_read ds sep group rest ends w ws marks last tens.1

-- digits in a row
pub digits_read : (ds sep group rest vs : List ℕ) → AreMarks ds sep group → AllBelowBase 10 vs → digits_of_text ds (spelled_by ds vs ++ rest) ≡ map character vs ++ digits_of_text ds rest
unfolding cons_digit
digits_read ds sep group rest [] marks tens = refl
digits_read ds sep group rest (v ∷ vs) marks tens =
    digits_more ds (spelled_by ds vs ++ rest) (slice_index ds v) (Some v) (found ds sep group v marks tens.0)
    ∙ ap (λ cs. character v ∷ cs) (digits_read ds sep group rest vs marks tens.1)

-- the characters of a fraction, the separator before them
abbrev pub fraction_chars : List ℕ → List ℕ → List ℕ → List ℕ
fraction_chars ds sep [] = []
fraction_chars ds sep (v ∷ vs) = sep ++ spelled_by ds (v ∷ vs)

-- those of a number without its sign, of which groups end at these magnitudes
abbrev pub number_chars : (ℕ → Bool) → List ℕ → List ℕ → List ℕ → List ℕ → List ℕ → List ℕ
number_chars ends ds sep group whole fraction = marked ends group (spelled_by ds whole) ++ fraction_chars ds sep fraction

begins_after : (ds sep group suffix : List ℕ) (v : ℕ) (vs : List ℕ) → AreMarks ds sep group → AllBelowBase 10 (v ∷ vs) → begins_fraction ds sep ((sep ++ spelled_by ds (v ∷ vs)) ++ suffix) ≡ true
begins_after ds sep group suffix v vs marks tens =
    ap (begins_fraction ds sep) (append_assoc sep (spelled_by ds (v ∷ vs)) suffix)
    ∙ begins_same ds sep (spelled_by ds vs ++ suffix) (slice_index ds v) (ap is_some (found ds sep group v marks tens.0))

none_behind : (ds sep group suffix vs : List ℕ) → AreMarks ds sep group → AllBelowBase 10 vs → no_digits ds suffix ≡ true → begins_fraction ds sep (fraction_chars ds sep vs ++ suffix) ≡ false → whole_in ds sep (fraction_chars ds sep vs ++ suffix) ≡ []
none_behind ds sep group suffix [] marks tens clear begins = none_whole ds sep suffix clear
none_behind ds sep group suffix (v ∷ vs) marks tens clear begins = absurd (false≢true (sym begins ∙ begins_after ds sep group suffix v vs marks tens))

-- the digits before the point of a number's text
pub whole_of_text : (ds sep group prefix suffix : List ℕ) (ends : ℕ → Bool) (v : ℕ) (vs fraction : List ℕ) → AreMarks ds sep group → ends 0 ≡ false → AllBelowBase 10 (v ∷ vs) → AllBelowBase 10 fraction
    → no_digits ds prefix ≡ true → no_digits ds suffix ≡ true → whole_in ds sep (prefix ++ (number_chars ends ds sep group (v ∷ vs) fraction ++ suffix)) ≡ map character (v ∷ vs)
whole_of_text ds sep group prefix suffix ends v vs fraction marks last tens parts front back =
    skip_whole ds sep prefix (number_chars ends ds sep group (v ∷ vs) fraction ++ suffix) front
    ∙ ap (whole_in ds sep) (append_assoc (marked ends group (spelled_by ds (v ∷ vs))) (fraction_chars ds sep fraction) suffix)
    ∙ whole_read ds sep group (fraction_chars ds sep fraction ++ suffix) ends v vs marks last tens (none_behind ds sep group suffix fraction marks parts back)

after_text : (ds sep group suffix fraction : List ℕ) → AreMarks ds sep group → AllBelowBase 10 fraction → no_digits ds suffix ≡ true
    → fraction_then (Some 0) (begins_fraction ds sep (fraction_chars ds sep fraction ++ suffix)) (digits_of_text ds (fraction_chars ds sep fraction ++ suffix)) (fraction_in ds sep (fraction_chars ds sep fraction ++ suffix)) ≡ map character fraction
after_text ds sep group suffix [] marks tens clear =
    ap (λ b. fraction_then (Some 0) b (digits_of_text ds suffix) (fraction_in ds sep suffix)) (begins_none ds sep suffix clear) ∙ none_fraction ds sep suffix clear
after_text ds sep group suffix (v ∷ vs) marks tens clear =
    let text : List ℕ = (sep ++ spelled_by ds (v ∷ vs)) ++ suffix in
    ap (λ b. fraction_then (Some 0) b (digits_of_text ds text) (fraction_in ds sep text)) (begins_after ds sep group suffix v vs marks tens)
    ∙ ap (digits_of_text ds) (append_assoc sep (spelled_by ds (v ∷ vs)) suffix)
    ∙ skip_digits ds sep (spelled_by ds (v ∷ vs) ++ suffix) marks.point
    ∙ digits_read ds sep group suffix (v ∷ vs) marks tens
    ∙ ap (λ cs. map character (v ∷ vs) ++ cs) (none_digits ds suffix clear)
    ∙ append-nil (map character (v ∷ vs))

-- and those after it
pub fraction_of_text : (ds sep group prefix suffix : List ℕ) (ends : ℕ → Bool) (v : ℕ) (vs fraction : List ℕ) → AreMarks ds sep group → ends 0 ≡ false → AllBelowBase 10 (v ∷ vs) → AllBelowBase 10 fraction
    → no_digits ds prefix ≡ true → no_digits ds suffix ≡ true → fraction_in ds sep (prefix ++ (number_chars ends ds sep group (v ∷ vs) fraction ++ suffix)) ≡ map character fraction
fraction_of_text ds sep group prefix suffix ends v vs fraction marks last tens parts front back =
    skip_fraction ds sep prefix (number_chars ends ds sep group (v ∷ vs) fraction ++ suffix) front
    ∙ ap (fraction_in ds sep) (append_assoc (marked ends group (spelled_by ds (v ∷ vs))) (fraction_chars ds sep fraction) suffix)
    ∙ fraction_read ds sep group (fraction_chars ds sep fraction ++ suffix) ends v vs marks last tens
    ∙ after_text ds sep group suffix fraction marks parts back
