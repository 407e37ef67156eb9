-- Rounding at a place to a multiple of what it counts: the digits above it, and the multiple that they become.
use Rattle.std.proofs.Common.{◌≡◌, ℕ, ◌+◌, ◌-◌, ◌*◌, ◌/◌, ◌%◌, ◌^◌, ◌<◌, ◌≤◌, Bool, true, false, cond, List, [], ◌∷◌, length, get_or, take, refl, sym, ap, ◌∙◌, subst, arith, ⊎_elim}
use Rattle.std.proofs.Math.Nat.{div-add-mod', mod-lt, div-eq_of_lt}
use Rattle.std.proofs.lemmas.Bool.{cases_lt}
use Rattle.std.proofs.lemmas.List.{length-take-le}
use Rattle.std.specs.Int.Digits.{number_from_digits}
use Rattle.std.specs.declared.cmp.Ordering.{Ordering}
use Rattle.std.specs.declared.cmp.Ordering.TheVariants.{Less, Equal, Greater}
use Rattle.fixed_decimal_digits.specs.declared.modes.UnsignedRoundingMode.{UnsignedRoundingMode}
use Rattle.fixed_decimal_digits.specs.declared.modes.UnsignedRoundingMode.TheVariants.{Expand, Trunc, HalfExpand, HalfTrunc, HalfEven}
use Rattle.fixed_decimal_digits.specs.CountDigits.{digit}
use Rattle.fixed_decimal_digits.specs.DigitList.{count_of, IsTrimmed}
use Rattle.fixed_decimal_digits.specs.Rounding.{IsRounded}
use Rattle.fixed_decimal_digits.specs.RoundingSteps.{Compares, takes_upper_of}
use Rattle.fixed_decimal_digit_words.proofs.TenLemmas.{tens_positive, tens_split, tens_apart, quotient_kept}
use Rattle.fixed_decimal_digit_words.proofs.DigitsLemmas.{number_quotient}
use Rattle.fixed_decimal_digits.proofs.CountLemmas.{count_below, digit_over, digit_inside}
use Rattle.fixed_decimal_digits.proofs.RoundingStepLemmas.{below_less, below_greater, below_middle, below_some, below_none, below_zero}
use Rattle.fixed_decimal_digits.proofs.RoundingLemmas.{picks, exact}
use Rattle.fixed_decimal_digits.proofs.LoopLemmas.{raised, raised_length, raised_number, raised_below, raised_first, raised_last}

-- no digit is right below a place that is far above the first
pub far_less : (ds : List ℕ) (top place : ℕ) → IsTrimmed ds top → top + 1 < place → 2 * (count_of ds top % 10 ^ place) < 10 ^ place
far_less ds top place h far =
    let none : digit (count_of ds top) (place - 1) ≡ 0 = digit_over ds top (place - 1) h.tight.tens h.room (omega arith) in
    below_less (count_of ds top) place (omega arith) (subst (λ d. d < 5) (sym none) (omega arith))

-- the first digit below a place
pub digit_after : (ds : List ℕ) (top place kept : ℕ) → IsTrimmed ds top → kept ≡ top + 1 - place → place ≤ top + 1 → kept < length ds → digit (count_of ds top) (place - 1) ≡ get_or ds kept 0
digit_after ds top place kept h e l inside =
    let room : length ds ≤ top + 1 = h.room in
    let at : top - (place - 1) ≡ kept = omega arith in
    digit_inside ds top (place - 1) h.tight.tens h.room (omega arith) (omega arith) ∙ ap (λ i. get_or ds i 0) at

pub after_less : (ds : List ℕ) (top place kept d : ℕ) → IsTrimmed ds top → kept ≡ top + 1 - place → place ≤ top + 1 → kept < length ds → d ≡ get_or ds kept 0 → d < 5
    → 2 * (count_of ds top % 10 ^ place) < 10 ^ place
after_less ds top place kept d h e l inside f small =
    let room : length ds ≤ top + 1 = h.room in
    below_less (count_of ds top) place (omega arith) (subst (λ x. x < 5) (f ∙ sym (digit_after ds top place kept h e l inside)) small)

pub after_greater : (ds : List ℕ) (top place kept d : ℕ) → IsTrimmed ds top → kept ≡ top + 1 - place → place ≤ top + 1 → kept < length ds → d ≡ get_or ds kept 0 → 5 < d
    → 10 ^ place < 2 * (count_of ds top % 10 ^ place)
after_greater ds top place kept d h e l inside f large =
    let room : length ds ≤ top + 1 = h.room in
    below_greater (count_of ds top) place (omega arith) (subst (λ x. 5 < x) (f ∙ sym (digit_after ds top place kept h e l inside)) large)

pub after_middle : (ds : List ℕ) (top place kept d : ℕ) → IsTrimmed ds top → kept ≡ top + 1 - place → place ≤ top + 1 → kept < length ds → d ≡ get_or ds kept 0 → d ≡ 5
    → 2 * (count_of ds top % 10 ^ place) ≡ 10 ^ place + 2 * (count_of ds top % 10 ^ (place - 1))
after_middle ds top place kept d h e l inside f five =
    let room : length ds ≤ top + 1 = h.room in
    below_middle (count_of ds top) place (omega arith) (digit_after ds top place kept h e l inside ∙ sym f ∙ five)

pub after_more : (ds : List ℕ) (top place kept d : ℕ) → IsTrimmed ds top → kept ≡ top + 1 - place → place ≤ top + 1 → kept + 1 < length ds → d ≡ get_or ds kept 0 → d ≡ 5
    → 10 ^ place < 2 * (count_of ds top % 10 ^ place)
after_more ds top place kept d h e l inside f five =
    let room : length ds ≤ top + 1 = h.room in
    let some = below_some ds top (place - 1) h (omega arith) (omega arith) in
    omega (arith, after_middle ds top place kept d h e l (omega arith) f five, some)

pub after_equal : (ds : List ℕ) (top place kept d : ℕ) → IsTrimmed ds top → kept ≡ top + 1 - place → place ≤ top + 1 → kept + 1 ≡ length ds → d ≡ get_or ds kept 0 → d ≡ 5
    → 2 * (count_of ds top % 10 ^ place) ≡ 10 ^ place
after_equal ds top place kept d h e l inside f five =
    let room : length ds ≤ top + 1 = h.room in
    let none = below_none ds top (place - 1) h (omega arith) in
    omega (arith, after_middle ds top place kept d h e l (omega arith) f five, none)

-- a part is left below the place where digits are after those that reach down to it
pub part_left : (ds : List ℕ) (top place kept : ℕ) → IsTrimmed ds top → kept ≡ top + 1 - place → kept < length ds → 0 < count_of ds top % 10 ^ place
part_left ds top place kept h e inside = let room : length ds ≤ top + 1 = h.room in below_some ds top place h (omega arith) (omega arith)

-- and none where they all do
pub nothing_behind : (ds : List ℕ) (top place kept : ℕ) → IsTrimmed ds top → kept ≡ top + 1 - place → length ds ≤ kept → count_of ds top % 10 ^ place ≡ 0
nothing_behind ds top place kept h e all =
    ⊎_elim (λ some. below_none ds top place h (omega arith)) (λ none. below_zero ds top place (omega arith)) (cases_lt 0 (length ds))

-- the digit's parity tells only between two that are equally near
same_but_tie : (mode : UnsignedRoundingMode) (half : Ordering) (a b : Bool) → (half ≡ Equal → a ≡ b) → takes_upper_of mode half a ≡ takes_upper_of mode half b
same_but_tie Expand half a b h = refl
same_but_tie Trunc half a b h = refl
same_but_tie HalfExpand Less a b h = refl
same_but_tie HalfExpand Equal a b h = refl
same_but_tie HalfExpand Greater a b h = refl
same_but_tie HalfTrunc Less a b h = refl
same_but_tie HalfTrunc Equal a b h = refl
same_but_tie HalfTrunc Greater a b h = refl
same_but_tie HalfEven Less a b h = refl
same_but_tie HalfEven Equal a b h = h refl
same_but_tie HalfEven Greater a b h = refl

odd_of : (x : ℕ) → (odd : Bool) × (x % 2 ≡ cond odd 1 0)
odd_of x = ⊎_elim (λ a. (true, omega arith)) (λ a. (false, omega arith)) (cases_lt 0 (x % 2))

same_parity : (a b : Bool) (x : ℕ) → x ≡ cond a 1 0 → x ≡ cond b 1 0 → a ≡ b
same_parity true true x e f = refl
same_parity false false x e f = refl
same_parity true false x e f = absurd (omega (arith, e, f))
same_parity false true x e f = absurd (omega (arith, e, f))

counted : (upper : Bool) (q unit : ℕ) → cond upper (q * unit + unit) (q * unit) ≡ (q + cond upper 1 0) * unit
counted true q unit = omega arith
counted false q unit = omega arith

-- the multiple that a mode names
pub place_rounded : (mode : UnsignedRoundingMode) (half : Ordering) (odd : Bool) (n place : ℕ) → 0 < n % 10 ^ place → Compares half (2 * (n % 10 ^ place)) (10 ^ place)
    → (half ≡ Equal → n / 10 ^ place % 2 ≡ cond odd 1 0) → IsRounded mode (10 ^ place) n ((n / 10 ^ place + cond (takes_upper_of mode half odd) 1 0) * 10 ^ place)
place_rounded mode half odd n place some cmp parity =
    let u = 10 ^ place in
    let q = n / u in
    let known = odd_of q in
    let same : takes_upper_of mode half known.0 ≡ takes_upper_of mode half odd = same_but_tie mode half known.0 odd (λ tie. same_parity known.0 odd (q % 2) known.1 (parity tie)) in
    subst (λ up. IsRounded mode u n ((q + cond up 1 0) * u)) same
    (subst (λ m. IsRounded mode u n m) (counted (takes_upper_of mode half known.0) q u)
    (picks mode half known.0 u q (n % u) n (sym (div-add-mod' n u)) some (mod-lt n (tens_positive place)) cmp known.1))

-- a count with no part below the place is itself one
pub place_exact : (mode : UnsignedRoundingMode) (n place : ℕ) → n % 10 ^ place ≡ 0 → IsRounded mode (10 ^ place) n n
place_exact mode n place none = exact mode (10 ^ place) n (n / 10 ^ place, omega (arith, div-add-mod' n (10 ^ place)))

-- the first digits spell the count of units
pub front_number : (ds : List ℕ) (top place kept : ℕ) → IsTrimmed ds top → kept ≡ top + 1 - place → kept < length ds → number_from_digits 10 (take kept ds) ≡ count_of ds top / 10 ^ place
front_number ds top place kept h e inside =
    let room : length ds ≤ top + 1 = h.room in
    ⊎_elim
    (λ a.
    let none : kept ≡ 0 = omega arith in
    let small : count_of ds top < 10 ^ place = let b = count_below ds top h.tight.tens h.room in let up = tens_apart (top + 1) place (omega arith) in omega arith in
    ap (λ k. number_from_digits 10 (take k ds)) none ∙ sym (div-eq_of_lt small))
    (λ a.
    let behind : place - (top + 1 - length ds) ≡ length ds - kept = omega arith in
    sym (number_quotient kept ds h.tight.tens) ∙ ap (λ k. number_from_digits 10 ds / 10 ^ k) (sym behind)
    ∙ sym (quotient_kept (number_from_digits 10 ds) (top + 1 - length ds) place (omega arith)))
    (cases_lt (top + 1) place)

regrouped : (number value a b t : ℕ) → value ≡ number * a → t ≡ a * b → number * t ≡ value * b
regrouped number value a b t e f = omega (arith, ap (λ x. number * x) f, ap (λ x. x * b) e)

-- fewer digits, the first where it was
pub count_kept : (number value top place kept n : ℕ) → kept ≡ top + 1 - place → 0 < n → n ≤ kept → value ≡ number * 10 ^ (kept - n) → number * 10 ^ (top + 1 - n) ≡ value * 10 ^ place
count_kept number value top place kept n e p l v =
    regrouped number value (10 ^ (kept - n)) (10 ^ place) (10 ^ (top + 1 - n)) v (tens_split (kept - n) place (top + 1 - n) (omega arith))

pub count_front : (ds new : List ℕ) (value top place kept n : ℕ) → kept ≡ top + 1 - place → kept < length ds → 0 < n → n ≤ kept → new ≡ take n ds
    → value ≡ number_from_digits 10 (take n ds) * 10 ^ (kept - n) → count_of new top ≡ value * 10 ^ place
count_front ds new value top place kept n e inside p l f v =
    ap (λ xs. count_of xs top) f
    ∙ ap (λ k. number_from_digits 10 (take n ds) * 10 ^ (top + 1 - k)) (length-take-le n ds (omega (arith, inside, l)))
    ∙ count_kept (number_from_digits 10 (take n ds)) value top place kept n e p l v

-- and the last of them one more
pub count_raised : (ds new : List ℕ) (value top place kept n : ℕ) → kept ≡ top + 1 - place → kept < length ds → 0 < n → n ≤ kept → new ≡ raised ds n
    → value ≡ (number_from_digits 10 (take n ds) + 1) * 10 ^ (kept - n) → count_of new top ≡ value * 10 ^ place
count_raised ds new value top place kept n e inside p l f v =
    let within : n ≤ length ds = omega (arith, inside, l) in
    ap (λ xs. count_of xs top) f
    ∙ ap (λ k. number_from_digits 10 (raised ds n) * 10 ^ (top + 1 - k)) (raised_length ds n p within)
    ∙ count_kept (number_from_digits 10 (raised ds n)) value top place kept n e p l (v ∙ ap (λ x. x * 10 ^ (kept - n)) (sym (raised_number ds n p within)))

pub trimmed_raised : (ds new : List ℕ) (top n : ℕ) → IsTrimmed ds top → 0 < n → n ≤ length ds → ¬ (get_or ds (n - 1) 0 ≡ 9) → new ≡ raised ds n → IsTrimmed new top
trimmed_raised ds new top n h p l ne f =
    let long : length (raised ds n) ≡ n = raised_length ds n p l in
    let room : length ds ≤ top + 1 = h.room in
    subst (λ xs. IsTrimmed xs top) (sym f)
    (record {
      tight =
          record { tens = raised_below ds n h.tight.tens ne; first = λ _. raised_first ds n p l h.tight.first; last = λ _. raised_last ds n h.tight.tens ne };
      room = omega (arith, long, l, room);
      zero_top = λ none. absurd (omega (arith, none, long, p));
    })

-- one alone, where each digit was a nine, or there was none
pub count_one : (ds new : List ℕ) (value place kept n : ℕ) → n ≡ 0 → new ≡ 1 ∷ [] → value ≡ (number_from_digits 10 (take n ds) + 1) * 10 ^ (kept - n) → count_of new (place + kept) ≡ value * 10 ^ place
count_one ds new value place kept n z f v =
    let all : kept - 0 ≡ kept = omega arith in
    let same : value ≡ 1 * 10 ^ kept = v ∙ ap (λ k. (number_from_digits 10 (take k ds) + 1) * 10 ^ (kept - k)) z ∙ ap (λ k. 1 * 10 ^ k) all in
    ap (λ xs. count_of xs (place + kept)) f
    ∙ regrouped 1 value (10 ^ kept) (10 ^ place) (10 ^ (place + kept + 1 - 1)) same (tens_split kept place (place + kept + 1 - 1) (omega arith))
