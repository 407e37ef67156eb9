-- A number that is divided by ten to an exponent, or multiplied.
use Rattle.std.proofs.Common.{◌≡◌, ℕ, ℤ, ◌+◌, ◌-◌, ◌*◌, ◌/◌, ◌%◌, ◌^◌, ◌<◌, ◌≤◌, lit≤, sym, ap, ◌∙◌, subst, arith}
use Rattle.std.proofs.Math.Nat.{div-add-mod', mul-le-mul_left, mul_assoc}
use Rattle.fixed_decimal.specs.Number.{Number}
use Rattle.fixed_decimal.specs.Range.{IsHighest, IsLowest}
use Rattle.fixed_decimal.specs.Shifts.{Shifts, TrimsEnd, TrimsStart, fall, rise}
use Rattle.fixed_decimal.proofs.TenLemmas.{mod_below_power, tens_apart, tens_split}
use Rattle.icu_decimal_scientific.specs.Scientific.{IsSignificand}
use Rattle.icu_decimal_scientific.specs.Steps.{CanRaise}
use Rattle.icu_decimal_scientific.proofs.PowerLemmas.{few_high}

pub shifted_down : (by : ℤ) (old new : Number) (n : ℕ) → Shifts by old new → fall by ≡ n → rise by ≡ 0 → n ≤ old.low → old.high < 65536 → new.count * 10 ^ n ≡ old.count
shifted_down by old new n s f r low high =
    let shifted = s.within (record { low = omega arith; high = omega arith }) in
    let one : 10 ^ rise by ≡ 1 = ap (λ x. 10 ^ x) r in
    ap (λ x. new.count * 10 ^ x) (sym f) ∙ shifted.count ∙ ap (λ x. old.count * x) one ∙ omega arith

pub shifted_up : (by : ℤ) (old new : Number) (n : ℕ) → Shifts by old new → fall by ≡ 0 → rise by ≡ n → old.high + n < 65536 → new.count ≡ old.count * 10 ^ n
shifted_up by old new n s f r high =
    let shifted = s.within (record { low = omega arith; high = omega arith }) in
    let one : 10 ^ fall by ≡ 1 = ap (λ x. 10 ^ x) f in
    let unit : new.count * 1 ≡ new.count = omega arith in
    sym unit ∙ ap (λ x. new.count * x) (sym one) ∙ shifted.count ∙ ap (λ x. old.count * 10 ^ x) r

-- a count without a digit below the lowest place has none below a lower one
pub whole_below : (n low p : ℕ) → n % 10 ^ low ≡ 0 → p ≤ low → n % 10 ^ p ≡ 0
whole_below n low p w l =
    let d : n / 10 ^ low * 10 ^ low ≡ n = let parts = div-add-mod' n (10 ^ low) in omega arith in
    ap (λ k. k % 10 ^ p) (sym d) ∙ mod_below_power (n / 10 ^ low) low p l

pub whole_at : (n low p : ℕ) → IsLowest 32768 n low → p ≤ low → n % 10 ^ p ≡ 0
whole_at n low p l h = whole_below n low p l.whole h

pub part_at : (n low p : ℕ) → IsLowest 32768 n low → p ≤ 32768 → low < p → ¬ (n % 10 ^ p ≡ 0)
part_at n low p l r h w = let k = l.highest p r w in absurd (omega arith)

-- fewer tens make no more
pub fewer_tens : (n i j k : ℕ) → i ≤ j → n * 10 ^ j < 10 ^ k → n * 10 ^ i < 10 ^ k
fewer_tens n i j k l h = let up = mul-le-mul_left {m = 10 ^ i} {n = 10 ^ j} n (tens_apart i j l) in omega arith

pub two_steps : (n a b i j : ℕ) → a ≡ n * 10 ^ i → b ≡ a * 10 ^ (j - i) → i ≤ j → b ≡ n * 10 ^ j
two_steps n a b i j e f l =
    let s = tens_split i (j - i) j (omega arith) in
    f ∙ ap (λ x. x * 10 ^ (j - i)) e ∙ regrouped n (10 ^ i) (10 ^ (j - i)) ∙ ap (λ x. n * x) (sym s)
  where
    regrouped : (n a b : ℕ) → n * a * b ≡ n * (a * b)
    regrouped n a b = mul_assoc n a b

pub first_high : (n high by : ℕ) → CanRaise n by → IsHighest 32768 0 n high → high ≤ 32771
first_high n high by can h =
    let up = tens_apart 32768 32772 (lit≤ tt) in
    let small = can.small in
    few_high 32768 n high 32771 h (lit≤ tt) (omega arith)

pub second_high : (n m high half by : ℕ) → CanRaise n by → half ≤ by → m ≡ n * 10 ^ half → IsHighest 32768 0 m high → high ≤ 32771
second_high n m high half by can l e h =
    let few = fewer_tens n half by 32772 l can.few in
    few_high 32768 m high 32771 h (lit≤ tt) (subst (λ k. k < 10 ^ 32772) (sym e) few)

pub significand_made : (old cut divided trimmed new : Number) (e : ℤ) → TrimsEnd old cut → divided.count * 10 ^ rise e ≡ cut.count * 10 ^ fall e
    → TrimsEnd divided trimmed → TrimsStart trimmed new → IsSignificand e old new
significand_made old cut divided trimmed new e c d t u = record {
  count = ap (λ k. k * 10 ^ rise e) (u.count ∙ t.count) ∙ d ∙ ap (λ k. k * 10 ^ fall e) c.count;
  low = subst (IsLowest 32768 new.count) (sym u.low) (subst (λ k. IsLowest 32768 k trimmed.low) (sym (u.count ∙ t.count)) t.low);
  high = subst (λ k. IsHighest 32768 0 k new.high) (sym u.count) u.high;
}

pub raised_when_falling : (n : ℕ) (e : ℤ) (by : ℕ) → by ≡ fall e → 0 < by → (0 < fall e → CanRaise n (fall e)) → CanRaise n by
raised_when_falling n e by is some can = subst (CanRaise n) (sym is) (can (omega arith))
