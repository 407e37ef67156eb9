-- The number of an increment, as normal texts have it, is read as that increment.
use Rattle.std.proofs.Common.{◌≡◌, ℕ, zero, suc, ◌+◌, ◌-◌, ◌<◌, ◌≤◌, nat_lt, Bool, true, false, not, ◌&&◌, ◌||◌, ◌==◌, List, [], ◌∷◌, ◌++◌, length, drop, take, position, Option, Some, None, codes, cond, refl, sym, ap, subst, ◌∙◌, append-nil, append_assoc, arith}
use Rattle.std.specs.Char.{is_ascii_digit}
use Rattle.std.specs.List.{list_all, position_or_len}
use Rattle.std.specs.Str.{bytes_eq}
use Rattle.std.proofs.lemmas.Bool.{and_parts, false_from_ne_true, false≢true, eqb-true, le-ltb, lt-ltb, ltb-false, ltb-true}
use Rattle.std.proofs.lemmas.List.{length-append}
use Rattle.std.proofs.lemmas.List.Folds.{list_all-append}
use Rattle.fixed_decimal.specs.declared.RoundingIncrement.{RoundingIncrement}
use Rattle.fixed_decimal.specs.declared.RoundingIncrement.TheVariants.{MultiplesOf1, MultiplesOf2, MultiplesOf5, MultiplesOf25}
use Rattle.locale_numbers_formats.specs.Cutting.{is_separator}
use Rattle.locale_numbers_formats.specs.IncrementWords.{from_first, increment_at, increment_setting, is_zero, number_setting, parts_setting, pointed_at, step_of, step_setting, zeros_behind}
use Rattle.locale_numbers_formats.specs.NormalText.{marks, number_text, point_zeros, small_text, step_digits, whole_mark}
use Rattle.locale_numbers_formats.specs.declared.skeleton_error.WordFault.TheVariants.{Unknown, Unsupported}
use Rattle.locale_numbers_formats.specs.declared.stems.Precision.TheVariants as precision
use Rattle.locale_numbers_formats.specs.declared.stems.Setting.TheVariants.{OfPrecision, Refused}
use Rattle.locale_numbers_formats.specs.declared.stems.WholeZeros.{WholeZeros}
use Rattle.locale_numbers_formats.specs.declared.stems.WholeZeros.TheVariants.{Shown, Hidden}

-- ---- runs of zeros

abbrev zeros_of : ℕ → List ℕ
zeros_of count = marks count (48 ∷ [])

pub length_marks : (count mark : ℕ) (rest : List ℕ) → length (marks count (mark ∷ []) ++ rest) ≡ count + length rest
length_marks zero mark rest = omega arith
length_marks (suc count) mark rest = omega (arith, length_marks count mark rest)

length_zeros : (count : ℕ) → length (zeros_of count) ≡ count
length_zeros zero = refl
length_zeros (suc count) = omega (arith, length_zeros count)

zeros_joined : (one other : ℕ) → zeros_of one ++ zeros_of other ≡ zeros_of (one + other)
zeros_joined zero other = let same : other ≡ 0 + other = omega arith in ap zeros_of same
zeros_joined (suc one) other =
    let next : suc (one + other) ≡ suc one + other = omega arith in
    ap (λ (t : List ℕ). 48 ∷ t) (zeros_joined one other) ∙ ap zeros_of next

both : (a b : Bool) → a ≡ true → b ≡ true → (a && b) ≡ true
both true b one other = other
both false b one other = one

all_joined : (p : ℕ → Bool) (one other : List ℕ) → list_all p one ≡ true → list_all p other ≡ true → list_all p (one ++ other) ≡ true
all_joined p one other first second = list_all-append p one other ∙ both (list_all p one) (list_all p other) first second

all_zeros : (p : ℕ → Bool) → p 48 ≡ true → (count : ℕ) → list_all p (zeros_of count) ≡ true
all_zeros p is zero = refl
all_zeros p is (suc count) = both (p 48) (list_all p (zeros_of count)) is (all_zeros p is count)

-- ---- texts without a mark

abbrev lacks : ℕ → List ℕ → Bool
lacks mark text = list_all (λ (c : ℕ). not (c == mark)) text

differs : (p : ℕ → Bool) (mark : ℕ) → p mark ≡ false → (c : ℕ) → p c ≡ true → not (c == mark) ≡ true
differs p mark unlike c is = ap not (false_from_ne_true (c == mark) (λ same. false≢true (sym unlike ∙ subst (λ (x : ℕ). p x ≡ true) (eqb-true c mark same) is)))

pub lacks_by : (p : ℕ → Bool) (mark : ℕ) → p mark ≡ false → (text : List ℕ) → list_all p text ≡ true → lacks mark text ≡ true
lacks_by p mark unlike [] all = refl
lacks_by p mark unlike (c ∷ cs) all =
    let parts = and_parts (p c) (list_all p cs) all in
    both (not (c == mark)) (lacks mark cs) (differs p mark unlike c parts.0) (lacks_by p mark unlike cs parts.1)

module _ (mark : ℕ) (same : (mark == mark) ≡ true) where
  first_place : (front rest : List ℕ) → lacks mark front ≡ true → position_or_len (is_separator mark) (front ++ mark ∷ rest) ≡ length front
  first_place [] rest none = ap (λ (b : Bool). cond (not b) (1 + position_or_len (is_separator mark) rest) 0) same
  first_place (c ∷ cs) rest none =
      let parts = and_parts (not (c == mark)) (lacks mark cs) none in
      ap (λ (b : Bool). cond b (1 + position_or_len (is_separator mark) (cs ++ mark ∷ rest)) 0) parts.0
      ∙ (let next = first_place cs rest parts.1 in omega (arith, next))

  found : (front rest : List ℕ) → lacks mark front ≡ true → position (is_separator mark) (front ++ mark ∷ rest) ≡ Some (length front)
  found front rest none =
      ap (λ (n : ℕ). cond (nat_lt n (length (front ++ mark ∷ rest))) (Some n) None) (first_place front rest none)
      ∙ ap (λ (b : Bool). cond b (Some (length front)) None) (lt-ltb (length front) (length (front ++ mark ∷ rest)) (omega (arith, length-append front (mark ∷ rest))))

no_place : (mark : ℕ) (text : List ℕ) → lacks mark text ≡ true → position_or_len (is_separator mark) text ≡ length text
no_place mark [] none = refl
no_place mark (c ∷ cs) none =
    let parts = and_parts (not (c == mark)) (lacks mark cs) none in
    ap (λ (b : Bool). cond b (1 + position_or_len (is_separator mark) cs) 0) parts.0
    ∙ (let next = no_place mark cs parts.1 in omega (arith, next))

not_found : (mark : ℕ) (text : List ℕ) → lacks mark text ≡ true → position (is_separator mark) text ≡ None
not_found mark text none =
    ap (λ (n : ℕ). cond (nat_lt n (length text)) (Some n) None) (no_place mark text none)
    ∙ ap (λ (b : Bool). cond b (Some (length text)) None) (le-ltb (length text) (length text) (omega arith))

take_front : (front rest : List ℕ) → take (length front) (front ++ rest) ≡ front
take_front [] rest = refl
take_front (c ∷ cs) rest = ap (λ (t : List ℕ). c ∷ t) (take_front cs rest)

drop_front : (mark : ℕ) (front rest : List ℕ) → drop (length front + 1) (front ++ mark ∷ rest) ≡ rest
drop_front mark [] rest = refl
drop_front mark (c ∷ cs) rest =
    let next : length (c ∷ cs) + 1 ≡ suc (length cs + 1) = omega arith in
    ap (λ (n : ℕ). drop n (c ∷ (cs ++ mark ∷ rest))) next ∙ drop_front mark cs rest

-- ---- a number without `/w`, and its digits

option_read : (whole : WholeZeros) (text : List ℕ) → lacks 47 text ≡ true → increment_setting (text ++ whole_mark whole) ≡ number_setting whole text
option_read Shown text none = ap increment_setting (append-nil text) ∙ ap (λ (o : Option ℕ). increment_at o text) (not_found 47 text none)
option_read Hidden text none =
    ap (λ (o : Option ℕ). increment_at o (text ++ codes "/w")) (found 47 refl text (codes "w") none)
    ∙ ap (λ (t : List ℕ). cond (bytes_eq t (codes "w")) (number_setting Hidden (take (length text) (text ++ codes "/w"))) (Refused Unknown)) (drop_front 47 text (codes "w"))
    ∙ ap (number_setting Hidden) (take_front text (codes "/w"))

whole_read : (whole : WholeZeros) (text : List ℕ) → lacks 46 text ≡ true → number_setting whole text ≡ parts_setting whole text []
whole_read whole text none = ap (λ (o : Option ℕ). pointed_at o whole text) (not_found 46 text none)

parts_read : (whole : WholeZeros) (front fraction : List ℕ) → lacks 46 front ≡ true → number_setting whole (front ++ 46 ∷ fraction) ≡ parts_setting whole front fraction
parts_read whole front fraction none =
    ap (λ (o : Option ℕ). pointed_at o whole (front ++ 46 ∷ fraction)) (found 46 refl front fraction none)
    ∙ (λ i. parts_setting whole (take_front front (46 ∷ fraction) i) (drop_front 46 front fraction i))

-- ---- the digits of an increment

zeros_read : (step : RoundingIncrement) (zeros : ℕ) → zeros_behind step (zeros_of zeros) ≡ Some (step, zeros)
zeros_read step zeros =
    ap (λ (b : Bool). cond b (Some (step, length (zeros_of zeros))) None) (all_zeros is_zero refl zeros)
    ∙ ap (λ (n : ℕ). Some (step, n)) (length_zeros zeros)

step_read : (step : RoundingIncrement) (zeros : ℕ) → step_of (step_digits step ++ zeros_of zeros) ≡ Some (step, zeros)
step_read MultiplesOf1 zeros = zeros_read MultiplesOf1 zeros
step_read MultiplesOf2 zero = refl
step_read MultiplesOf2 (suc zeros) = zeros_read MultiplesOf2 (suc zeros)
step_read MultiplesOf5 zeros = zeros_read MultiplesOf5 zeros
step_read MultiplesOf25 zeros = zeros_read MultiplesOf25 zeros

-- the first digit is not zero
first_stays : (step : RoundingIncrement) (rest : List ℕ) → from_first (step_digits step ++ rest) ≡ step_digits step ++ rest
first_stays MultiplesOf1 rest = refl
first_stays MultiplesOf2 rest = refl
first_stays MultiplesOf5 rest = refl
first_stays MultiplesOf25 rest = refl

zeros_gone : (count : ℕ) (rest : List ℕ) → from_first (zeros_of count ++ rest) ≡ from_first rest
zeros_gone zero rest = refl
zeros_gone (suc count) rest = zeros_gone count rest

digits_all : (p : ℕ → Bool) → list_all p (codes "125") ≡ true → (step : RoundingIncrement) → list_all p (step_digits step) ≡ true
digits_all p all step =
    let one = and_parts (p 49) (list_all p (codes "25")) all in
    let two = and_parts (p 50) (list_all p (codes "5")) one.1 in
    let five = and_parts (p 53) true two.1 in
    at one.0 two.0 five.0 step
  where
    at : p 49 ≡ true → p 50 ≡ true → p 53 ≡ true → (s : RoundingIncrement) → list_all p (step_digits s) ≡ true
    at one two five MultiplesOf1 = both (p 49) true one refl
    at one two five MultiplesOf2 = both (p 50) true two refl
    at one two five MultiplesOf5 = both (p 53) true five refl
    at one two five MultiplesOf25 = both (p 50) (p 53 && true) two (both (p 53) true five refl)

abbrev is_part : ℕ → Bool
is_part c = (c == 46) || is_ascii_digit c

point_all : (digits : ℕ) → list_all is_part (point_zeros digits) ≡ true
point_all zero = refl
point_all (suc digits) = all_zeros is_part refl (suc digits)

small_all : (step : RoundingIncrement) (zeros digits : ℕ) → list_all is_part (small_text step zeros digits) ≡ true
small_all step zeros digits = at (nat_lt digits (length (step_digits step) + zeros))
  where
    tail : List ℕ
    tail = step_digits step ++ zeros_of zeros

    front : ℕ
    front = digits - (length (step_digits step) + zeros)

    at : (b : Bool) → list_all is_part (cond b (codes "2.5" ++ zeros_of zeros) (codes "0." ++ (zeros_of front ++ tail))) ≡ true
    at true = all_zeros is_part refl zeros
    at false =
        all_joined is_part (zeros_of front) tail (all_zeros is_part refl front)
        (all_joined is_part (step_digits step) (zeros_of zeros) (digits_all is_part refl step) (all_zeros is_part refl zeros))

number_all : (step : RoundingIncrement) (zeros digits : ℕ) → list_all is_part (number_text step zeros digits) ≡ true
number_all step zeros digits = at (nat_lt zeros digits)
  where
    tail : List ℕ
    tail = zeros_of (zeros - digits) ++ point_zeros digits

    at : (b : Bool) → list_all is_part (cond b (small_text step zeros digits) (step_digits step ++ tail)) ≡ true
    at true = small_all step zeros digits
    at false =
        all_joined is_part (step_digits step) tail (digits_all is_part refl step)
        (all_joined is_part (zeros_of (zeros - digits)) (point_zeros digits) (all_zeros is_part refl (zeros - digits)) (point_all digits))

-- no mark of another kind is in it
pub number_lacks : (mark : ℕ) → is_part mark ≡ false → (step : RoundingIncrement) (zeros digits : ℕ) → lacks mark (number_text step zeros digits) ≡ true
number_lacks mark unlike step zeros digits = lacks_by is_part mark unlike (number_text step zeros digits) (number_all step zeros digits)

-- ---- the whole

module _ (whole : WholeZeros) (step : RoundingIncrement) (zeros digits : ℕ) (few : zeros ≤ 100) (short : digits ≤ 100) where
  abbrev tail : List ℕ
  tail = step_digits step ++ zeros_of zeros

  setting_is : (others : List ℕ) → step_setting (Some (step, zeros)) whole digits others ≡ OfPrecision (precision.Increment step zeros digits whole)
  setting_is others =
      (λ i. cond (le-ltb 100 zeros few i || le-ltb 100 digits short i) (Refused Unsupported) (OfPrecision (precision.Increment step zeros digits whole)))

  digits_read : (front fraction : List ℕ) → from_first (front ++ fraction) ≡ tail → length fraction ≡ digits
      → parts_setting whole front fraction ≡ OfPrecision (precision.Increment step zeros digits whole)
  digits_read front fraction same long =
      (λ i. step_setting (step_of (same i)) whole (long i) (same i))
      ∙ ap (λ (o : Option (RoundingIncrement × ℕ)). step_setting o whole digits tail) (step_read step zeros)
      ∙ setting_is tail

  -- the digits and zeros before the point
  abbrev front_of : List ℕ
  front_of = step_digits step ++ zeros_of (zeros - digits)

  front_lacks : lacks 46 front_of ≡ true
  front_lacks =
      lacks_by is_ascii_digit 46 refl front_of
      (all_joined is_ascii_digit (step_digits step) (zeros_of (zeros - digits)) (digits_all is_ascii_digit refl step) (all_zeros is_ascii_digit refl (zeros - digits)))

  front_first : digits ≤ zeros → from_first (front_of ++ zeros_of digits) ≡ tail
  front_first low =
      let sum : zeros - digits + digits ≡ zeros = omega (arith, low) in
      ap from_first (append_assoc (step_digits step) (zeros_of (zeros - digits)) (zeros_of digits))
      ∙ first_stays step (zeros_of (zeros - digits) ++ zeros_of digits)
      ∙ ap (λ (t : List ℕ). step_digits step ++ t) (zeros_joined (zeros - digits) digits ∙ ap zeros_of sum)

  large_read : digits ≤ zeros → (d : ℕ) → d ≡ digits
      → number_setting whole (step_digits step ++ (zeros_of (zeros - digits) ++ point_zeros d)) ≡ OfPrecision (precision.Increment step zeros digits whole)
  large_read low zero is =
      ap (λ (t : List ℕ). number_setting whole (step_digits step ++ t)) (append-nil (zeros_of (zeros - digits)))
      ∙ whole_read whole front_of front_lacks
      ∙ digits_read front_of [] (ap (λ (n : ℕ). from_first (front_of ++ zeros_of n)) is ∙ front_first low) is
  large_read low (suc d) is =
      ap (number_setting whole) (sym (append_assoc (step_digits step) (zeros_of (zeros - digits)) (point_zeros (suc d))))
      ∙ parts_read whole front_of (zeros_of (suc d)) front_lacks
      ∙ digits_read front_of (zeros_of (suc d)) (ap (λ (n : ℕ). from_first (front_of ++ zeros_of n)) is ∙ front_first low) (length_zeros (suc d) ∙ is)

  small_first : (b : Bool) → nat_lt digits (length (step_digits step) + zeros) ≡ b → zeros < digits
      → number_setting whole (cond b (codes "2.5" ++ zeros_of zeros) (codes "0." ++ (zeros_of (digits - (length (step_digits step) + zeros)) ++ tail)))
      ≡ OfPrecision (precision.Increment step zeros digits whole)
  small_first true is low =
      let high = ltb-true digits (length (step_digits step) + zeros) is in
      parts_read whole (codes "2") (53 ∷ zeros_of zeros) refl
      ∙ digits_read (codes "2") (53 ∷ zeros_of zeros) (within step high) (let long = length_zeros zeros in let most = at_most step in omega (arith, long, most, high, low))
    where
      at_most : (s : RoundingIncrement) → length (step_digits s) ≤ 2
      at_most MultiplesOf1 = omega arith
      at_most MultiplesOf2 = omega arith
      at_most MultiplesOf5 = omega arith
      at_most MultiplesOf25 = omega arith

      within : (s : RoundingIncrement) → digits < length (step_digits s) + zeros → codes "25" ++ zeros_of zeros ≡ step_digits s ++ zeros_of zeros
      within MultiplesOf1 high = absurd (omega (arith, high, low))
      within MultiplesOf2 high = absurd (omega (arith, high, low))
      within MultiplesOf5 high = absurd (omega (arith, high, low))
      within MultiplesOf25 high = refl
  small_first false is low =
      parts_read whole (codes "0") (zeros_of front ++ tail) refl
      ∙ digits_read (codes "0") (zeros_of front ++ tail) (zeros_gone front tail ∙ first_stays step (zeros_of zeros))
      (let long = length_marks front 48 tail in
      let ends = length-append (step_digits step) (zeros_of zeros) in
      let count = length_zeros zeros in
      let high = ltb-false digits (length (step_digits step) + zeros) is in
      omega (arith, long, ends, count, high))
    where
      front : ℕ
      front = digits - (length (step_digits step) + zeros)

  number_read : (b : Bool) → nat_lt zeros digits ≡ b
      → number_setting whole (cond b (small_text step zeros digits) (step_digits step ++ (zeros_of (zeros - digits) ++ point_zeros digits))) ≡ OfPrecision (precision.Increment step zeros digits whole)
  number_read true is = small_first (nat_lt digits (length (step_digits step) + zeros)) refl (ltb-true zeros digits is)
  number_read false is = large_read (ltb-false zeros digits is) digits refl

  pub increment_read : increment_setting (number_text step zeros digits ++ whole_mark whole) ≡ OfPrecision (precision.Increment step zeros digits whole)
  increment_read = option_read whole (number_text step zeros digits) (number_lacks 47 refl step zeros digits) ∙ number_read (nat_lt zeros digits) refl
