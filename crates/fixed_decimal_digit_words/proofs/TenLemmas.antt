-- Powers of ten, and quotients by them.
use Rattle.std.proofs.Common.{◌≡◌, ℕ, suc, ◌+◌, ◌-◌, ◌*◌, ◌/◌, ◌%◌, ◌^◌, ◌<◌, ◌≤◌, sym, ap, ◌∙◌, arith}
use Rattle.std.proofs.Math.Nat.{one-le-pow, pow-le-pow_right, pow-suc, div-eq_of_lt, mul-mod_left, mul-div_cancel, zero-mod, mul_assoc, div-div-eq-div-mul, div-add-mod'}
use Rattle.std.proofs.lemmas.Nat.{pow-add}

pub tens_positive : (k : ℕ) → 0 < 10 ^ k
tens_positive k = let h : 1 ≤ 10 ^ k = one-le-pow k 10 (omega arith) in omega arith

pub tens_apart : (i j : ℕ) → i ≤ j → 10 ^ i ≤ 10 ^ j
tens_apart i j h = pow-le-pow_right {n = 10} (omega arith) {i = i} {j = j} h

pub tens_split : (i j k : ℕ) → i + j ≡ k → 10 ^ k ≡ 10 ^ i * 10 ^ j
tens_split i j k h = ap (λ n. 10 ^ n) (sym h) ∙ pow-add 10 i j

pub tens_next : (k : ℕ) → 10 ^ (k + 1) ≡ 10 ^ k * 10
tens_next k = let e : k + 1 ≡ suc k = omega arith in ap (λ n. 10 ^ n) e ∙ pow-suc 10 k

-- a zero after a number, at a place, is the number at the next place
pub zero_after : (n t u : ℕ) → u ≡ t * 10 → (n * 10 + 0) * t ≡ n * u
zero_after n t u e = omega (arith, ap (λ x. n * x) e)

-- a count below ten to a power has no digit at that place or above
pub digit_above : (n k p : ℕ) → n < 10 ^ k → k ≤ p → n / 10 ^ p % 10 ≡ 0
digit_above n k p h le =
    let e : n < 10 ^ p = let up = tens_apart k p le in omega arith in
    ap (λ q. q % 10) (div-eq_of_lt e) ∙ zero-mod 10

pub tens_regrouped : (n a b : ℕ) → n * (a * 10 * b) ≡ (n * a * 10) * b
tens_regrouped n a b = omega arith

-- a multiple of a power of ten has a zero at each place below
pub digit_under : (n e p : ℕ) → p < e → (n * 10 ^ e) / 10 ^ p % 10 ≡ 0
digit_under n e p h =
    let split : (e - p - 1) + 1 + p ≡ e = omega arith in
    let power : 10 ^ e ≡ 10 ^ (e - p - 1) * 10 * 10 ^ p = tens_split (e - p - 1 + 1) p e split ∙ ap (λ t. t * 10 ^ p) (tens_next (e - p - 1)) in
    let whole : n * 10 ^ e ≡ (n * 10 ^ (e - p - 1) * 10) * 10 ^ p = ap (λ t. n * t) power ∙ (tens_regrouped n (10 ^ (e - p - 1)) (10 ^ p)) in
    ap (λ t. t / 10 ^ p % 10) whole ∙ ap (λ q. q % 10) (mul-div_cancel (n * 10 ^ (e - p - 1) * 10) (tens_positive p)) ∙ mul-mod_left (n * 10 ^ (e - p - 1)) 10

pub mod_below_power : (n e p : ℕ) → p ≤ e → (n * 10 ^ e) % 10 ^ p ≡ 0
mod_below_power n e p h =
    let split : (e - p) + p ≡ e = omega arith in
    ap (λ t. n * t % 10 ^ p) (tens_split (e - p) p e split) ∙ ap (λ t. t % 10 ^ p) (sym (mul_assoc n (10 ^ (e - p)) (10 ^ p))) ∙ mul-mod_left (n * 10 ^ (e - p)) (10 ^ p)

-- the quotient by a power under the one that was multiplied
pub quotient_kept : (n e p : ℕ) → e ≤ p → n * 10 ^ e / 10 ^ p ≡ n / 10 ^ (p - e)
quotient_kept n e p h =
    let split : e + (p - e) ≡ p = omega arith in
    ap (λ t. n * 10 ^ e / t) (tens_split e (p - e) p split) ∙ sym (div-div-eq-div-mul (n * 10 ^ e) (10 ^ e) (10 ^ (p - e))) ∙ ap (λ t. t / 10 ^ (p - e)) (mul-div_cancel n (tens_positive e))

remainder_by : (a b d r s t : ℕ) → b * 10 + d ≡ a → b * (t * 10) + s ≡ a * t + r → s ≡ d * t + r
remainder_by a b d r s t e f = omega (arith, ap (λ x. x * t) e)

-- a remainder by one more power has one more digit before it
pub remainder_more : (n t : ℕ) → 0 < t → n % (t * 10) ≡ n / t % 10 * t + n % t
remainder_more n t p =
    let q : n / t / 10 ≡ n / (t * 10) = div-div-eq-div-mul n t 10 in
    let a : n / (t * 10) * (t * 10) + n % (t * 10) ≡ n = div-add-mod' n (t * 10) in
    let b : n / t * t + n % t ≡ n = div-add-mod' n t in
    let d : n / t / 10 * 10 + n / t % 10 ≡ n / t = div-add-mod' (n / t) 10 in
    remainder_by (n / t) (n / (t * 10)) (n / t % 10) (n % t) (n % (t * 10)) t (ap (λ x. x * 10 + n / t % 10) (sym q) ∙ d) (a ∙ sym b)
