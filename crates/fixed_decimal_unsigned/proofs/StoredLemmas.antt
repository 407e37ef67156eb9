-- The count that stored digits spell: its size, and its digit at a place.
use Rattle.std.proofs.Common.{◌≡◌, ℕ, ◌+◌, ◌-◌, ◌^◌, ◌<◌, ◌≤◌, ◌==◌, List, [], ◌∷◌, length, get_or, refl, sym, ap, arith}
use Rattle.std.proofs.lemmas.Bool.Decides.{nat_tests}
use Rattle.std.specs.Int.Digits.{number_from_digits}
use Rattle.fixed_decimal_unsigned.specs.Number.{IsNumber}
use Rattle.fixed_decimal_digits.specs.DigitList.{count_of}
use Rattle.fixed_decimal_unsigned.specs.Stored.{IsStored}
use Rattle.fixed_decimal_digits.proofs.TenLemmas.{tens_apart, mod_below_power}
use Rattle.fixed_decimal_digits.proofs.CountLemmas.{count_below, count_positive, count_none}

pub stored_is_number : (ds : List ℕ) (top low high : ℕ) → IsStored ds top low high → high < 65536 → IsNumber (record { count = count_of ds top; low = low; high = high })
stored_is_number ds top low high s h = record {
  low = s.low_end;
  ones = s.ones;
  high = h;
  whole = let le : low ≤ top + 1 - length ds = let r = s.room in omega arith in mod_below_power (number_from_digits 10 ds) (top + 1 - length ds) low le;
  below =
      let a : count_of ds top < 10 ^ (top + 1) = let r = s.room in count_below ds top s.tight.tens (omega arith) in
      let b : 10 ^ (top + 1) ≤ 10 ^ (high + 1) = let r = s.below in tens_apart (top + 1) (high + 1) (omega arith) in
      omega arith;
}

pub positive_tested : (m n : ℕ) → 0 < m → 0 < n → (m == 0) ≡ (n == 0)
positive_tested m n p q = grind (arith, nat_tests)

pub zero_tested : (ds : List ℕ) (top : ℕ) → (0 < length ds → 0 < get_or ds 0 0) → (length ds == 0) ≡ (count_of ds top == 0)
zero_tested [] top f = ap (λ n. n == 0) (sym (count_none [] top refl))
zero_tested (d ∷ ds) top f =
    let p : 0 < count_of (d ∷ ds) top = count_positive (d ∷ ds) top (omega arith) (f (omega arith)) in
    positive_tested (length (d ∷ ds)) (count_of (d ∷ ds) top) (omega arith) p

pub room_of : (ds : List ℕ) (top low high : ℕ) → IsStored ds top low high → length ds ≤ top + 1
room_of ds top low high s = let r = s.room in omega arith
