-- The ends of a number that shows no zeros there.
use Rattle.std.proofs.Common.{◌≡◌, ℕ, zero, suc, ◌+◌, ◌%◌, ◌^◌, ◌<◌, ◌≤◌, ◌==◌, nat_lt, Bool, true, false, cond, refl, sym, ◌∙◌, subst, lit≤, arith, ⊎_elim}
use Rattle.std.proofs.lemmas.Bool.{cases_lt, eq-eqb, eqb-true, false≢true, ltb-false, ltb-true}
use Rattle.fixed_decimal.specs.Number.{IsNumber, Number}
use Rattle.fixed_decimal.specs.Range.{IsHighest, IsLowest}
use Rattle.fixed_decimal.proofs.TenLemmas.{tens_apart, tens_next}
use Rattle.icu_decimal_scientific.specs.FormOf.{bare, ending, holding}
use Rattle.icu_decimal_scientific.proofs.PowerLemmas.{lt_through, same_high, same_low}

-- the lowest place from one upwards that holds a count
pub record Holds (from count high : ℕ) : Type 0 where
  pub keeps : from ≤ high
  pub holds : count < 10 ^ (high + 1)
  pub lowest : (h : ℕ) → from ≤ h → count < 10 ^ (h + 1) → high ≤ h

not_here : (from count h : ℕ) → count < 10 ^ (h + 1) → h < suc from → 10 ^ (from + 1) ≤ count → ⊥
not_here from count h few here over = let up = tens_apart (h + 1) (from + 1) (omega arith) in omega (arith, few, over, up)

holds_on : (from count high : ℕ) → nat_lt count (10 ^ (from + 1)) ≡ false → Holds (suc from) count high → Holds from count high
holds_on from count high test next =
    let over : 10 ^ (from + 1) ≤ count = ltb-false count (10 ^ (from + 1)) test in
    record {
      keeps = let k = next.keeps in omega arith;
      holds = next.holds;
      lowest = λ h f few. ⊎_elim (λ here. absurd (not_here from count h few here over)) (λ above. next.lowest h above few) (cases_lt h (suc from));
    }

pub holding_is : (more from count : ℕ) → count < 10 ^ (from + more + 1) → Holds from count (holding more from count)
unfolding holding
holding_is zero from count l = record { keeps = omega arith; holds = subst (λ k. count < 10 ^ k) (omega arith) l; lowest = λ h f _. f }
holding_is (suc more) from count l = go (nat_lt count (10 ^ (from + 1))) refl (holding_is more (suc from) count (subst (λ k. count < 10 ^ k) (omega arith) l))
  where
    go : (b : Bool) → nat_lt count (10 ^ (from + 1)) ≡ b → Holds (suc from) count (holding more (suc from) count) → Holds from count (cond b from (holding more (suc from) count))
    go true test next = record { keeps = omega arith; holds = ltb-true count (10 ^ (from + 1)) test; lowest = λ h f _. f }
    go false test next = holds_on from count (holding more (suc from) count) test next

not_at : (most count p : ℕ) → (count % 10 ^ suc most == 0) ≡ false → count % 10 ^ p ≡ 0 → suc most ≤ p → p ≤ suc most → ⊥
not_at most count p test w low high =
    let at : p ≡ suc most = omega arith in
    false≢true (sym test ∙ eq-eqb (count % 10 ^ suc most) 0 (subst (λ k. count % 10 ^ k ≡ 0) at w))

ends_on : (most count low : ℕ) → (count % 10 ^ suc most == 0) ≡ false → IsLowest most count low → IsLowest (suc most) count low
ends_on most count low test next = record {
  under = let u = next.under in omega arith;
  whole = next.whole;
  highest = λ p l w. ⊎_elim (λ below. next.highest p (omega (arith, below)) w) (λ here. absurd (not_at most count p test w here l)) (cases_lt p (suc most));
}

pub ending_is : (most count : ℕ) → IsLowest most count (ending most count)
unfolding ending
ending_is zero count = record { under = omega arith; whole = omega arith; highest = λ p l _. l }
ending_is (suc most) count = go (count % 10 ^ suc most == 0) refl (ending_is most count)
  where
    go : (b : Bool) → (count % 10 ^ suc most == 0) ≡ b → IsLowest most count (ending most count) → IsLowest (suc most) count (cond b (suc most) (ending most count))
    go true test next = record { under = omega arith; whole = eqb-true (count % 10 ^ suc most) 0 test; highest = λ p l _. l }
    go false test next = ends_on most count (ending most count) test next

-- counts of numbers
pub far : (n : Number) → IsNumber n → n.count < 10 ^ 65536
far n is = lt_through n.count (10 ^ (n.high + 1)) (10 ^ 65536) is.below (tens_apart (n.high + 1) 65536 (let high = is.high in omega arith))

pub further : (n k : ℕ) → n < 10 ^ 65536 → 65536 ≤ k → n < 10 ^ k
further n k l above = lt_through n (10 ^ 65536) (10 ^ k) l (tens_apart 65536 k above)

pub bare_high : (n : ℕ) → n < 10 ^ 65536 → IsHighest 32768 0 n (holding 32768 32768 n)
bare_high n l = let h = holding_is 32768 32768 n (further n 65537 l (lit≤ tt)) in record {
  keeps = h.keeps;
  position = omega arith;
  holds = h.holds;
  lowest = λ k above _ few. h.lowest k above few;
}

pub bare_is : (n : Number) → n.count < 10 ^ 65536 → IsLowest 32768 n.count n.low → IsHighest 32768 0 n.count n.high → n ≡ bare n.count
unfolding bare
bare_is n l low high =
    let at : n.low ≡ ending 32768 n.count = same_low 32768 n.count n.low (ending 32768 n.count) low (ending_is 32768 n.count) in
    let to : n.high ≡ holding 32768 32768 n.count = same_high 32768 n.count n.high (holding 32768 32768 n.count) high (bare_high n.count l) in
    λ i. record { count = n.count; low = at i; high = to i }

-- a whole number has no more digits than it counts
pub below_power : (n : ℕ) → n < 10 ^ n
below_power zero = lit≤ tt
below_power (suc n) = let l = below_power n in let t = tens_next n in omega (arith, l, t)
