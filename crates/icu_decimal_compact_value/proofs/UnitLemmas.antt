-- What a number is after its rounding half to even at the place of its unit.
use Rattle.std.proofs.Common.{◌≡◌, ℕ, ◌+◌, ◌*◌, ◌^◌, ◌≤◌, ◌⊎◌, Bool, true, false, cond, nat_le, min, List, [], ◌∷◌, None, Some, refl, sym, ap, ◌∙◌, subst, arith, inl, inr, ⊎_elim}
use Rattle.std.specs.Option.{option_or}
use Rattle.std.proofs.Math.Nat.{eq-zero-or-pos, one-mul, zero-mul}
use Rattle.std.proofs.lemmas.Bool.Decides.{nat_tests}
use Rattle.fixed_decimal.specs.Number.{Number}
use Rattle.fixed_decimal.specs.Range.{IsHighest}
use Rattle.fixed_decimal.specs.Rounding.{IsLimited, IsMultiple, IsNearest}
use Rattle.fixed_decimal.proofs.TenLemmas.{tens_positive}
use Rattle.icu_decimal_compact_value.specs.declared.entry.CompactEntry.{CompactEntry}
use Rattle.icu_decimal_compact_value.specs.Choice.{CanShow, entry_at, exponent_place, shown_under}
use Rattle.icu_decimal_compact_value.specs.ShownValue.{magnitude, unit_place}
use Rattle.icu_decimal_compact_value.specs.Steps.{IsRoundedTo, StaysNear}
use Rattle.icu_decimal_compact_value.proofs.MagnitudeLemmas.{magnitude_top}
use Rattle.icu_decimal_compact_value.proofs.RoundingLemmas.{even_is, stays_between}

-- an entry is there only from the ones on
pub entry_from_ones : (ones : ℕ) (entries : List CompactEntry) (k : ℕ) → (entry_at ones entries k ≡ None) ⊎ (ones ≤ k)
entry_from_ones ones [] k = inl refl
entry_from_ones ones (x ∷ xs) k = go (nat_le (ones + x.log10_type) k) refl (entry_from_ones ones xs k)
  where
    go : (b : Bool) → nat_le (ones + x.log10_type) k ≡ b → (entry_at ones xs k ≡ None) ⊎ (ones ≤ k) → (option_or (entry_at ones xs k) (cond b (Some x) None) ≡ None) ⊎ (ones ≤ k)
    go b e (inr h) = inr h
    go true e (inl z) = inr (let h : ones + x.log10_type ≤ k = grind (arith, nat_tests, e) in omega arith)
    go false e (inl z) = inl (ap (λ o. option_or o None) z)

module _ (entries : List CompactEntry) (number rounded : Number) (can : CanShow entries number.count) (place taken : ℕ) (at : place ≡ unit_place (exponent_place 32768 entries) (magnitude 32768 number.count)) (taken_nearest : IsNearest (1 * 10 ^ place) number.count taken (λ _. IsMultiple (2 * (1 * 10 ^ place)) taken)) (is : IsLimited taken rounded.count) where
  one_unit : 1 * 10 ^ place ≡ 10 ^ unit_place (exponent_place 32768 entries) (magnitude 32768 number.count)
  one_unit = one-mul (10 ^ place) ∙ ap (λ p. 10 ^ p) at

  nearest : IsNearest (10 ^ unit_place (exponent_place 32768 entries) (magnitude 32768 number.count)) number.count taken (λ _. IsMultiple (2 * 10 ^ unit_place (exponent_place 32768 entries) (magnitude 32768 number.count)) taken)
  nearest = subst (λ u. IsNearest u number.count taken (λ _. IsMultiple (2 * u) taken)) one_unit taken_nearest

  taken_is : taken ≡ shown_under 32768 entries number.count
  taken_is = even_is (10 ^ unit_place (exponent_place 32768 entries) (magnitude 32768 number.count)) number.count taken (tens_positive (unit_place (exponent_place 32768 entries) (magnitude 32768 number.count))) nearest

  limited : IsLimited taken rounded.count → rounded.count ≡ taken
  limited (inl h) = h.1
  limited (inr h) = let b = can.below in let t = taken_is in let o = h.0 in absurd (omega arith)

  count_is : rounded.count ≡ taken
  count_is = limited is

  near : StaysNear (magnitude 32768 number.count) taken
  near = ⊎_elim
      (λ z. let d = nearest.nearest 0 (0, sym (zero-mul (10 ^ unit_place (exponent_place 32768 entries) (magnitude 32768 number.count)))) in inl (omega arith, ap (magnitude 32768) z))
      (λ p. let t = magnitude_top 32768 number.count p in
      inr (stays_between (unit_place (exponent_place 32768 entries) (magnitude 32768 number.count)) (magnitude 32768 number.count) number.count taken (λ _. IsMultiple (2 * 10 ^ unit_place (exponent_place 32768 entries) (magnitude 32768 number.count)) taken) (omega arith) t.reaches t.below nearest))
      (eq-zero-or-pos number.count)

  pub rounded_to : rounded.low ≡ min place 32768 → IsHighest number.high place rounded.count rounded.high → IsRoundedTo entries number rounded
  rounded_to low high = record {
    value = count_is ∙ taken_is;
    near = subst (StaysNear (magnitude 32768 number.count)) (sym count_is) near;
    low = low ∙ ap (λ p. min p 32768) at;
    high = subst (λ p. IsHighest number.high p rounded.count rounded.high) at high;
  }
