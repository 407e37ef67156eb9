-- When the shown value stays below the limit of decimals.
use Rattle.std.proofs.Common.{◌≡◌, ℕ, suc, ◌+◌, ◌-◌, ◌*◌, ◌^◌, ◌<◌, ◌≤◌, ◌⊎◌, Bool, true, false, not, IsTrue, List, refl, sym, ap, ◌∙◌, subst, arith, inl, inr, ⊎_elim}
use Rattle.std.proofs.Math.Nat.{eq-zero-or-pos, zero-mul}
use Rattle.std.proofs.lemmas.Bool.{cases_lt}
use Rattle.fixed_decimal.specs.Rounding.{IsMultiple, count_limit}
use Rattle.fixed_decimal.proofs.TenLemmas.{tens_apart, tens_positive}
use Rattle.icu_decimal_compact_value.specs.declared.entry.CompactEntry.{CompactEntry}
use Rattle.icu_decimal_compact_value.specs.Choice.{CanShow, exponent_place, shown_under}
use Rattle.icu_decimal_compact_value.specs.ShownValue.{even_count, magnitude, shown_value, unit_place}
use Rattle.icu_decimal_compact_value.specs.Steps.{IsNines}
use Rattle.icu_decimal_compact_value.proofs.MagnitudeLemmas.{magnitude_top}
use Rattle.icu_decimal_compact_value.proofs.NearestLemmas.{even_nearest}
use Rattle.icu_decimal_compact_value.proofs.NinesLemmas.{nines_of_power, power_of_nines}
use Rattle.icu_decimal_compact_value.proofs.RoundingLemmas.{stays_between}

-- a shown value lies between the powers of ten around its number, and zero is shown as itself
pub shown_between : (ones : ℕ) (e : ℕ → ℕ) (n : ℕ) → ((n ≡ 0) × (shown_value ones e n ≡ 0)) ⊎ ((10 ^ magnitude ones n ≤ shown_value ones e n) × (shown_value ones e n ≤ 10 ^ suc (magnitude ones n)))
shown_between ones e n = ⊎_elim
    (λ z. let d = (even_nearest (10 ^ unit_place e (magnitude ones n)) n (tens_positive (unit_place e (magnitude ones n)))).nearest 0 (0, sym (zero-mul (10 ^ unit_place e (magnitude ones n)))) in inl (z, omega arith))
    (λ p. let t = magnitude_top ones n p in
    inr (stays_between (unit_place e (magnitude ones n)) (magnitude ones n) n (shown_value ones e n) (λ _. IsMultiple (2 * 10 ^ unit_place e (magnitude ones n)) (shown_value ones e n)) (omega arith) t.reaches t.below
    (even_nearest (10 ^ unit_place e (magnitude ones n)) n (tens_positive (unit_place e (magnitude ones n))))))
    (eq-zero-or-pos n)

pub limit_is : (k : ℕ) → k ≡ 65536 → count_limit ≡ 10 ^ k
unfolding count_limit
limit_is k e = ap (λ x. 10 ^ x) (sym e)

module _ (limit k n v : ℕ) (most : v ≤ 10 ^ suc k) where
  below_power : suc k < limit → v < 10 ^ limit
  below_power l = let a = tens_apart (suc (suc k)) limit l in let p = tens_positive k in omega arith

module _ (entries : List CompactEntry) (n k : ℕ) (at : k ≡ magnitude 32768 n) where
  pub can_below : k < 65535 → CanShow entries n
  can_below l = record {
    below = ⊎_elim
        (λ z. let s = z.1 in let e = limit_is (k + (65536 - k)) (omega arith) in let p = tens_positive (k + (65536 - k)) in omega arith)
        (λ b. let m : shown_under 32768 entries n ≤ 10 ^ suc k = subst (λ x. shown_under 32768 entries n ≤ 10 ^ suc x) (sym at) b.1 in
        let e = limit_is (k + (65536 - k)) (omega arith) in let s = below_power (k + (65536 - k)) k n (shown_under 32768 entries n) m (omega arith) in omega arith)
        (shown_between 32768 (exponent_place 32768 entries) n);
  }

  module _ (full : suc k ≡ 65536) (p : ℕ) (place : p ≡ unit_place (exponent_place 32768 entries) k) where
    some : 0 < n
    some = ⊎_elim (λ z. let m : magnitude 32768 n ≡ 32768 = ap (magnitude 32768) z in absurd (omega arith)) (λ h. h) (eq-zero-or-pos n)

    small : n < 10 ^ suc k
    small = let t = magnitude_top 32768 n some in subst (λ x. n < 10 ^ suc x) (sym at) t.below

    above : 1 ≤ p
    above = let q = place in omega arith

    value_is : shown_under 32768 entries n ≡ even_count (10 ^ p) n * 10 ^ p
    value_is = ap (λ x. even_count (10 ^ x) n * 10 ^ x) (ap (unit_place (exponent_place 32768 entries)) (sym at) ∙ sym place)

    not_over : CanShow entries n → ¬ (IsNines p k n)
    not_over c h =
        let v = power_of_nines p k n above (omega arith) small h in
        let b = c.below in
        let e = limit_is (suc k) full in
        let s = value_is in
        absurd (omega arith)

    not_nines : ¬ (IsNines p k n) → CanShow entries n
    not_nines h = record {
      below =
          let e = limit_is (suc k) full in
          let s = value_is in
          ⊎_elim
          (λ z. absurd (let t = some in let o = z.0 in omega arith))
          (λ b. let m : shown_under 32768 entries n ≤ 10 ^ suc k = subst (λ x. shown_under 32768 entries n ≤ 10 ^ suc x) (sym at) b.1 in
          ⊎_elim (λ l. omega arith) (λ l. absurd (h (nines_of_power p k n above (omega arith) small (omega arith)))) (cases_lt (shown_under 32768 entries n) (10 ^ suc k)))
          (shown_between 32768 (exponent_place 32768 entries) n);
    }

    pub can_when : (nines : Bool) → (IsTrue nines → IsNines p k n) × (IsNines p k n → IsTrue nines) → (IsTrue (not nines) → CanShow entries n) × (CanShow entries n → IsTrue (not nines))
    can_when true h = (λ t. absurd (grind (arith, t)), λ c. absurd (not_over c (h.0 refl)))
    can_when false h = (λ _. not_nines (λ s. let t = h.1 s in grind (arith, t)), λ _. refl)
