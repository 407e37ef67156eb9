-- Digits as numbers: one digit more, a shift by a power of ten, and zeros at the end.
use Rattle.std.proofs.Common.{refl, ◌≡◌, ℕ, zero, suc, ◌+◌, ◌-◌, ◌*◌, ◌/◌, ◌%◌, ◌^◌, ◌<◌, ◌≤◌, ◌==◌, true, false, cond, min, sym, ap, ◌∙◌, arith}
use Rattle.std.proofs.Math.Arith.{mod-mul}
use Rattle.std.proofs.Math.Nat.{div-div-eq-div-mul, mod-lt, mul-div_cancel, pow-le-pow_right}
use Rattle.std.proofs.lemmas.Bool.Decides.{nat_tests}
use Rattle.std.proofs.lemmas.Nat.{pow-add}
use Rattle.fixed_decimal.specs.Number.{digit}
use Rattle.fixed_decimal.proofs.TenLemmas.{tens_next, tens_positive}
use Rattle.icu_decimal_plurals.specs.Operands.{operands_shown, operands_with, part_of, trimmed}

-- one digit more after
part_more : (n a j : ℕ) → part_of n a (j + 1) ≡ part_of n (a + 1) j * 10 + digit n a
part_more n a j =
    ap (λ m. n / 10 ^ a % m) (tens_next j) ∙ mod-mul (n / 10 ^ a) {m = 10 ^ j} {c = 10} (tens_positive j) (omega arith)
    ∙ ap (λ q. q % 10 ^ j * 10 + digit n a) (div-div-eq-div-mul n (10 ^ a) 10 ∙ ap (λ m. n / m) (sym (tens_next a)))

pub next_digit : (n base places left part : ℕ) → 0 < left → left ≤ places → part ≡ part_of n (base + left) (places - left)
    → part * 10 + digit n (base + (left - 1)) ≡ part_of n (base + (left - 1)) (places - (left - 1))
next_digit n base places left part some within h =
    let above : base + left ≡ base + (left - 1) + 1 = omega arith in
    let more : (places - left) + 1 ≡ places - (left - 1) = omega arith in
    ap (λ x. x * 10 + digit n (base + (left - 1))) (h ∙ ap (λ a. part_of n a (places - left)) above)
    ∙ sym (part_more n (base + (left - 1)) (places - left)) ∙ ap (part_of n (base + (left - 1))) more

pub part_below : (n a k : ℕ) → k ≤ 18 → part_of n a k < 10 ^ 18
part_below n a k h =
    let small = mod-lt (n / 10 ^ a) {m = 10 ^ k} (tens_positive k) in
    let bound : 10 ^ k ≤ 10 ^ 18 = pow-le-pow_right {n = 10} (omega arith) {i = k} {j = 18} h in
    omega arith

-- a number times a power of ten has the same digits, so many places up
pub part_shifted : (n c a k : ℕ) → c ≤ a → part_of (n * 10 ^ c) a k ≡ part_of n (a - c) k
part_shifted n c a k h =
    let split : c + (a - c) ≡ a = omega arith in
    let power : 10 ^ a ≡ 10 ^ c * 10 ^ (a - c) = ap (λ e. 10 ^ e) (sym split) ∙ pow-add 10 c (a - c) in
    ap (λ q. q % 10 ^ k)
    (ap (λ m. n * 10 ^ c / m) power ∙ sym (div-div-eq-div-mul (n * 10 ^ c) (10 ^ c) (10 ^ (a - c))) ∙ ap (λ m. m / 10 ^ (a - c)) (mul-div_cancel n (tens_positive c)))

by_zero : (k digits : ℕ) → digits % 10 ≡ 0 → (digits % 10 == 0) ≡ true
by_zero k digits h = grind (arith, nat_tests)

by_other : (k digits : ℕ) → ¬ (digits % 10 ≡ 0) → (digits % 10 == 0) ≡ false
by_other k digits h = grind (arith, nat_tests)

pub trim_goes_on : (left digits : ℕ) → 0 < left → digits % 10 ≡ 0 → trimmed left digits ≡ trimmed (left - 1) (digits / 10)
trim_goes_on zero digits some h = absurd (omega arith)
trim_goes_on (suc k) digits some h =
    let fewer : k ≡ suc k - 1 = omega arith in
    ap (λ b. cond b (trimmed k (digits / 10)) (digits, suc k)) (by_zero k digits h) ∙ ap (λ j. trimmed j (digits / 10)) fewer

pub trim_stops : (left digits : ℕ) → ¬ (digits % 10 ≡ 0) → trimmed left digits ≡ (digits, left)
trim_stops zero digits h = refl
trim_stops (suc k) digits h = ap (λ b. cond b (trimmed k (digits / 10)) (digits, suc k)) (by_other k digits h)

pub trim_ends : (left digits : ℕ) → left ≡ 0 → trimmed left digits ≡ (digits, left)
trim_ends zero digits h = refl
trim_ends (suc k) digits h = absurd (omega arith)

-- of zeros alone nothing is left
pub trim_nothing : (left digits : ℕ) → digits ≡ 0 → trimmed left digits ≡ (0, 0)
trim_nothing zero digits none = ap (λ n. (n, 0)) none
trim_nothing (suc k) digits none =
    ap (λ b. cond b (trimmed k (digits / 10)) (digits, suc k)) (by_zero k digits (ap (λ n. n % 10) none)) ∙ trim_nothing k (digits / 10) (ap (λ n. n / 10) none)

-- operands by their digits
pub operands_are : (ones count low c places v i f : ℕ) → low + places ≡ ones → c + 18 ≤ ones → v ≡ min (places - c) 18
    → i ≡ part_of count (ones - c) 18 → f ≡ part_of count (ones - c - v) v
    → operands_shown i v f c ≡ operands_with ones (count * 10 ^ c) (min (ones - (low + c)) 18) c
operands_are ones count low c places v i f shown room v_is i_is f_is =
    let value = count * 10 ^ c in
    let i_same : i ≡ part_of value ones 18 = i_is ∙ sym (part_shifted count c ones 18 (omega arith)) in
    let moved : ones - c - v ≡ ones - v - c = omega arith in
    let f_same : f ≡ part_of value (ones - v) v = f_is ∙ ap (λ a. part_of count a v) moved ∙ sym (part_shifted count c (ones - v) v (omega arith)) in
    let kept : v ≡ min (ones - (low + c)) 18 = omega arith in
    ap (λ n. operands_shown n v f c) i_same ∙ ap (λ n. operands_shown (part_of value ones 18) v n c) f_same ∙ ap (λ n. operands_with ones value n c) kept
