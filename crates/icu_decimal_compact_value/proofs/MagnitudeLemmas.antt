-- The place of the first digit, told by powers of ten.
use Rattle.std.proofs.Common.{◌≡◌, ℕ, ℤ, pos, zero, suc, ◌*◌, ◌/◌, ◌%◌, ◌^◌, ◌<◌, ◌≤◌, ◌==◌, Bool, true, false, cond, nat_lt, refl, sym, ap, ◌∙◌, subst, arith, ⊎_elim}
use Rattle.std.proofs.Math.Nat.{div-eq_of_lt, zero-mul, zero-mod, mod-eq_of_lt, div-add-mod', mod-lt, mul-le-mul_right}
use Rattle.std.proofs.lemmas.Bool.{cases_lt}
use Rattle.std.proofs.lemmas.Bool.Decides.{nat_tests}
use Rattle.fixed_decimal.specs.Number.{digit, place}
use Rattle.fixed_decimal.specs.NonzeroPlaces.{IsFirstPlace}
use Rattle.fixed_decimal.proofs.TenLemmas.{tens_apart, tens_positive}
use Rattle.icu_decimal_compact_value.specs.ShownValue.{top_within, top, magnitude}

pub record IsTop (n k : ℕ) : Type 0 where
  pub reaches : 10 ^ k ≤ n
  pub below : n < 10 ^ suc k

within_top : (turns n : ℕ) → n ≤ turns → 0 < n → IsTop n (top_within turns n)
within_top zero n l p = absurd (omega arith)
within_top (suc turns) n l p = go (nat_lt n 10) refl (λ a b. within_top turns (n / 10) a b)
  where
    go : (b : Bool) → nat_lt n 10 ≡ b → (n / 10 ≤ turns → 0 < n / 10 → IsTop (n / 10) (top_within turns (n / 10))) → IsTop n (elim b as (λ _. ℕ) [ true ↦ 0 | false ↦ suc (top_within turns (n / 10)) ])
    go true e ih = record { reaches = omega arith; below = let h : n < 10 = grind (arith, nat_tests, e) in omega arith }
    go false e ih =
        let h : 10 ≤ n = grind (arith, nat_tests, e) in
        let i = ih (omega arith) (omega arith) in
        let reaches = i.reaches in
        let below = i.below in
        record { reaches = omega arith; below = omega arith }

pub top_is : (n : ℕ) → 0 < n → IsTop n (top n)
top_is n p = within_top n n (omega arith) p

one_top : (n i j : ℕ) → IsTop n i → IsTop n j → i ≤ j
one_top n i j a b = ⊎_elim (λ l. let up = tens_apart (suc j) i l in let r = a.reaches in let s = b.below in absurd (omega arith)) (λ l. l) (cases_lt j i)

some_of : (n k : ℕ) → IsTop n k → 0 < n
some_of n k t = let p = tens_positive k in let r = t.reaches in omega arith

pub top_unique : (n k : ℕ) → IsTop n k → top n ≡ k
top_unique n k t =
    let s : IsTop n (top n) = top_is n (some_of n k t) in
    let up : top n ≤ k = one_top n (top n) k s t in
    let down : k ≤ top n = one_top n k (top n) t s in
    omega arith

pub magnitude_some : (ones n : ℕ) → 0 < n → magnitude ones n ≡ top n
magnitude_some ones n p = let e : (n == 0) ≡ false = grind (arith, nat_tests) in ap (λ b. cond b ones (top n)) e

pub magnitude_top : (ones n : ℕ) → 0 < n → IsTop n (magnitude ones n)
magnitude_top ones n p = subst (IsTop n) (sym (magnitude_some ones n p)) (top_is n p)

pub magnitude_unique : (ones n k : ℕ) → IsTop n k → magnitude ones n ≡ k
magnitude_unique ones n k t = magnitude_some ones n (some_of n k t) ∙ top_unique n k t

quotient_some : (n k : ℕ) → 10 ^ k ≤ n → 1 ≤ n / 10 ^ k
quotient_some n k h =
    let d = div-add-mod' n (10 ^ k) in
    let r = mod-lt n (tens_positive k) in
    ⊎_elim (λ z. let none : n / 10 ^ k ≡ 0 = omega arith in let m : n / 10 ^ k * 10 ^ k ≡ 0 = ap (λ x. x * 10 ^ k) none ∙ zero-mul (10 ^ k) in absurd (omega arith)) (λ l. l) (cases_lt (n / 10 ^ k) 1)

quotient_small : (n k : ℕ) → n < 10 ^ suc k → n / 10 ^ k < 10
quotient_small n k h =
    let d = div-add-mod' n (10 ^ k) in
    ⊎_elim (λ l. l) (λ l. let m = mul-le-mul_right {m = 10} {n = n / 10 ^ k} (10 ^ k) l in absurd (omega arith)) (cases_lt (n / 10 ^ k) 10)

-- the first digit is at the top
pub top_digit : (n k : ℕ) → IsTop n k → 0 < digit n k
top_digit n k t =
    let a = quotient_some n k t.reaches in
    let b = quotient_small n k t.below in
    let e : n / 10 ^ k % 10 ≡ n / 10 ^ k = mod-eq_of_lt b in
    omega arith

pub no_digit : (n k p : ℕ) → n < 10 ^ k → k ≤ p → digit n p ≡ 0
no_digit n k p h le =
    let e : n < 10 ^ p = let up = tens_apart k p le in omega arith in
    ap (λ q. q % 10) (div-eq_of_lt e) ∙ zero-mod 10

pub first_is_top : (n p : ℕ) → IsFirstPlace n p → 0 < n → top n ≡ p
first_is_top n p f some =
    let t : IsTop n (top n) = top_is n some in
    let low : top n ≤ p = f.highest (top n) (top_digit n (top n) t) in
    let high : p ≤ top n = ⊎_elim (λ l. let z = no_digit n (suc (top n)) p t.below l in let d = f.nonzero in absurd (omega arith)) (λ l. l) (cases_lt (top n) p) in
    omega arith

-- what the call for the first digit answers is the magnitude
pub start_is : (n : ℕ) (r : ℤ) → (n ≡ 0 → r ≡ pos 0) → (0 < n → IsFirstPlace n (place r)) → place r ≡ magnitude 32768 n
start_is zero r z f = ap place (z refl)
start_is (suc n) r z f = sym (magnitude_some 32768 (suc n) (omega arith) ∙ first_is_top (suc n) (place r) (f (omega arith)) (omega arith))
