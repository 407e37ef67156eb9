-- The highest and the lowest place with a digit that is not zero: those of the first and the last kept digit.
use Rattle.std.proofs.Common.{◌≡◌, ℕ, ℤ, pos, negsuc, ◌+◌, ◌-◌, ◌*◌, ◌%◌, ◌^◌, ◌<◌, ◌≤◌, List, length, get_or, sym, ap, ◌∙◌, subst, refl, arith, ⊎_elim}
use Rattle.std.proofs.Math.Nat.{eq-zero-or-pos}
use Rattle.std.proofs.lemmas.Bool.{cases_lt}
use Rattle.std.proofs.lemmas.List.{take_all}
use Rattle.std.specs.Int.Digits.{number_from_digits, AllBelowBase}
use Rattle.fixed_decimal_unsigned.specs.Number.{Number, digit, place}
use Rattle.fixed_decimal_unsigned.specs.NonzeroPlaces.{IsFirstPlace, IsLastPlace}
use Rattle.fixed_decimal_unsigned.specs.RoundingMemory.{MayGrowAt, MayGrow}
use Rattle.fixed_decimal_digits.specs.DigitList.{IsTrimmed, count_of}
use Rattle.fixed_decimal_digits.specs.Rounding.{TakesOdd, increment_number}
use Rattle.fixed_decimal_digits.specs.declared.RoundingIncrement.{RoundingIncrement}
use Rattle.fixed_decimal_digits.specs.declared.RoundingIncrement.TheVariants.{MultiplesOf1, MultiplesOf2, MultiplesOf5, MultiplesOf25}
use Rattle.fixed_decimal_digits.specs.declared.UnsignedRoundingMode.{UnsignedRoundingMode}
use Rattle.fixed_decimal_unsigned.specs.Stored.{IsStored}
use Rattle.fixed_decimal_digits.proofs.TenLemmas.{digit_under, tens_apart}
use Rattle.fixed_decimal_digits.proofs.LoopLemmas.{front_last}
use Rattle.fixed_decimal_digits.proofs.CountLemmas.{digit_inside, digit_over, count_none, count_positive, count_reaches}
use Rattle.fixed_decimal_unsigned.proofs.MantissaLemmas.{number_made}
use Rattle.fixed_decimal_unsigned.proofs.RangeLemmas.{trimmed_of}

at_index : (ds : List ℕ) (i j : ℕ) → i ≡ j → 0 < get_or ds i 0 → 0 < get_or ds j 0
at_index ds i j e h = subst (λ k. 0 < get_or ds k 0) e h

pub first_place : (ds : List ℕ) (top : ℕ) → IsTrimmed ds top → 0 < length ds → IsFirstPlace (count_of ds top) top
first_place ds top h p =
    let at : digit (count_of ds top) top ≡ get_or ds (top - top) 0 = digit_inside ds top top h.tight.tens h.room (omega arith) (omega arith) in
    let some : 0 < get_or ds (top - top) 0 = at_index ds 0 (top - top) (omega arith) (h.tight.first p) in
    record {
      nonzero = omega arith;
      highest = λ other some. ⊎_elim (λ over. let z = digit_over ds top other h.tight.tens h.room over in absurd (omega arith)) (λ under. under) (cases_lt top other);
    }

last_digit : (ds : List ℕ) → AllBelowBase 10 ds → 0 < length ds → number_from_digits 10 ds % 10 ≡ get_or ds (length ds - 1) 0
last_digit ds h p = ap (λ xs. number_from_digits 10 xs % 10) (sym (take_all (length ds) ds (omega arith))) ∙ front_last ds (length ds) h p (omega arith)

pub last_place : (ds : List ℕ) (top : ℕ) → IsTrimmed ds top → 0 < length ds → IsLastPlace (count_of ds top) (top + 1 - length ds)
last_place ds top h p =
    let room : length ds ≤ top + 1 = h.room in
    let at : digit (count_of ds top) (top + 1 - length ds) ≡ get_or ds (top - (top + 1 - length ds)) 0 = digit_inside ds top (top + 1 - length ds) h.tight.tens room (omega arith) (omega arith) in
    let last : 0 < get_or ds (length ds - 1) 0 = subst (λ x. 0 < x) (last_digit ds h.tight.tens p) (h.tight.last p) in
    let some : 0 < get_or ds (top - (top + 1 - length ds)) 0 = at_index ds (length ds - 1) (top - (top + 1 - length ds)) (omega arith) last in
    record {
      nonzero = omega arith;
      lowest = λ other some. ⊎_elim (λ under. let z = digit_under (number_from_digits 10 ds) (top + 1 - length ds) other under in absurd (omega arith)) (λ over. over) (cases_lt other (top + 1 - length ds));
    }

-- only magnitude 0 is at the place of the ones
pub ones_only : (r : ℤ) → place r ≡ 32768 → r ≡ pos 0
ones_only (pos n) e = let z : n ≡ 0 = omega (arith, e) in ap pos z
ones_only (negsuc n) e = absurd (omega (arith, e))

none_kept : (ds : List ℕ) (top : ℕ) → IsTrimmed ds top → count_of ds top ≡ 0 → length ds ≡ 0
none_kept ds top h z = ⊎_elim (λ e. e) (λ p. let some = count_positive ds top p (h.tight.first p) in absurd (omega arith)) (eq-zero-or-pos (length ds))

pub some_kept : (ds : List ℕ) (top : ℕ) → 0 < count_of ds top → 0 < length ds
some_kept ds top p = ⊎_elim (λ e. let z = count_none ds top e in absurd (omega arith)) (λ h. h) (eq-zero-or-pos (length ds))

last_is : (p n top : ℕ) → p + n ≡ top → top + 1 - n ≡ p + 1
last_is p n top e = omega arith

-- where a rounding to multiples of 25 asks for more room
grows_at : (ds : List ℕ) (top low high : ℕ) → IsStored ds top low high → (old : Number) → number_made (count_of ds top) low high ≡ old → (p q : ℕ) → p ≡ q → p + 16 ≤ top → p + length ds ≡ top → MayGrowAt q old.count
grows_at ds top low high s old e p q at far end =
    let kept : IsTrimmed ds top = trimmed_of ds top low high s in
    let some : 0 < length ds = omega arith in
    subst (λ x. MayGrowAt x old.count) at (subst (λ v. MayGrowAt p v.count) e (record {
      first =
          let up : 10 ^ (p + 16) ≤ 10 ^ top = tens_apart (p + 16) top far in
          let reach : 10 ^ top ≤ count_of ds top = count_reaches ds top some (kept.tight.first some) kept.room in
          omega arith;
      last = subst (IsLastPlace (count_of ds top)) (last_is p (length ds) top end) (last_place ds top kept some);
    }))

only_twenty_five : (increment : RoundingIncrement) → ¬ (¬ (increment ≡ MultiplesOf25)) → increment ≡ MultiplesOf25
only_twenty_five MultiplesOf1 h = absurd (h (λ e. cc))
only_twenty_five MultiplesOf2 h = absurd (h (λ e. cc))
only_twenty_five MultiplesOf5 h = absurd (h (λ e. cc))
only_twenty_five MultiplesOf25 h = refl

-- where a rounding asks for more room
pub may_grow : (mode : UnsignedRoundingMode) (increment : RoundingIncrement) (ds : List ℕ) (top low high : ℕ) → IsStored ds top low high → (old : Number) → number_made (count_of ds top) low high ≡ old
    → (p q : ℕ) → p ≡ q → ¬ (¬ (increment ≡ MultiplesOf25)) → p + 16 ≤ top → p + length ds ≡ top → TakesOdd mode (increment_number increment * 10 ^ p) (count_of ds top) → MayGrow mode increment q old.count
may_grow mode increment ds top low high s old e p q at named far end odd = record {
  twenty_five = only_twenty_five increment named;
  at = grows_at ds top low high s old e p q at far end;
  odd = subst (λ k. TakesOdd mode (increment_number increment * 10 ^ k) old.count) at (subst (λ v. TakesOdd mode (increment_number increment * 10 ^ p) v.count) e odd);
}

module _ (ds : List ℕ) (top low high : ℕ) (s : IsStored ds top low high) (old : Number) (e : number_made (count_of ds top) low high ≡ old) (r : ℤ) where
  kept : IsTrimmed ds top
  kept = trimmed_of ds top low high s

  pub start_of_zero : place r ≡ top → old.count ≡ 0 → r ≡ pos 0
  start_of_zero at z = ones_only r (at ∙ s.zero_top (none_kept ds top kept (ap (λ v. v.count) e ∙ z)))

  pub start_of_some : place r ≡ top → 0 < old.count → IsFirstPlace old.count (place r)
  start_of_some at p =
      subst (IsFirstPlace old.count) (sym at) (subst (λ v. IsFirstPlace v.count top) e (first_place ds top kept (some_kept ds top (subst (λ v. 0 < v.count) (sym e) p))))

  pub end_of_none : 0 < length ds → old.count ≡ 0 → r ≡ pos 0
  end_of_none p z = let none = none_kept ds top kept (ap (λ v. v.count) e ∙ z) in absurd (omega arith)

  pub end_of_some : 0 < length ds → place r ≡ top + 1 - length ds → IsLastPlace old.count (place r)
  end_of_some p at = subst (IsLastPlace old.count) (sym at) (subst (λ v. IsLastPlace v.count (top + 1 - length ds)) e (last_place ds top kept p))
