-- The quotient half to even counts the nearest multiple.
use Rattle.std.proofs.Common.{◌≡◌, ◌≢◌, ℕ, ◌+◌, ◌*◌, ◌/◌, ◌%◌, ◌<◌, ◌≤◌, ◌⊎◌, refl, sym, ap, ◌∙◌, subst, arith, inl, inr, ⊎_elim}
use Rattle.std.proofs.Math.Nat.{div-add-mod', mod-lt}
use Rattle.std.proofs.lemmas.Bool.{cases_lt}
use Rattle.fixed_decimal.specs.Rounding.{IsMultiple, IsNearest, distance}
use Rattle.fixed_decimal.proofs.RoundingLemmas.{even_count as even_multiple, near_lower, near_upper, sides, upper_count}
use Rattle.icu_decimal_compact_value.specs.ShownValue.{even_count}
use Rattle.icu_decimal_compact_value.proofs.RoundingLemmas.{CountedBy, under, over, tie, counted}

tie_lower : (u low r n w : ℕ) → n ≡ low + r → 2 * r ≤ u → 0 < u → w ≢ low → distance n w ≡ distance n low → (w ≤ low) ⊎ (low + u ≤ w) → 2 * r ≡ u
tie_lower u low r n w e h p ne d (inl a) = absurd (ne (omega arith))
tie_lower u low r n w e h p ne d (inr a) = omega arith

tie_upper : (u low r n w : ℕ) → n ≡ low + r → r < u → u ≤ 2 * r → w ≢ low + u → distance n w ≡ distance n (low + u) → (w ≤ low) ⊎ (low + u ≤ w) → 2 * r ≡ u
tie_upper u low r n w e l h ne d (inl a) = omega arith
tie_upper u low r n w e l h ne d (inr a) = absurd (ne (omega arith))

module _ (u n : ℕ) (p : 0 < u) where
  whole : n ≡ n / u * u + n % u
  whole = sym (div-add-mod' n u)

  lower : 2 * (n % u) ≤ u → (2 * (n % u) ≡ u → n / u % 2 ≡ 0) → IsNearest u n (n / u * u) (λ _. IsMultiple (2 * u) (n / u * u))
  lower h t = record {
    multiple = (n / u, refl);
    nearest = λ w m. near_lower u (n / u * u) (n % u) n w whole h (sides (n / u) u w m);
    tied = λ w m ne d. even_multiple (n / u) u (t (tie_lower u (n / u * u) (n % u) n w whole h p ne d (sides (n / u) u w m)));
  }

  upper : u ≤ 2 * (n % u) → (2 * (n % u) ≡ u → (n / u + 1) % 2 ≡ 0) → IsNearest u n (n / u * u + u) (λ _. IsMultiple (2 * u) (n / u * u + u))
  upper h t = record {
    multiple = (n / u + 1, upper_count (n / u) u);
    nearest = λ w m. near_upper u (n / u * u) (n % u) n w whole (mod-lt n p) h (sides (n / u) u w m);
    tied = λ w m ne d. subst (IsMultiple (2 * u)) (sym (upper_count (n / u) u)) (even_multiple (n / u + 1) u (t (tie_upper u (n / u * u) (n % u) n w whole (mod-lt n p) h ne d (sides (n / u) u w m))));
  }

  low_at : (v : ℕ) → v ≡ n / u * u → IsNearest u n (n / u * u) (λ _. IsMultiple (2 * u) (n / u * u)) → IsNearest u n v (λ _. IsMultiple (2 * u) v)
  low_at v e h = subst (λ x. IsNearest u n x (λ _. IsMultiple (2 * u) x)) (sym e) h

  high_at : (v : ℕ) → v ≡ n / u * u + u → IsNearest u n (n / u * u + u) (λ _. IsMultiple (2 * u) (n / u * u + u)) → IsNearest u n v (λ _. IsMultiple (2 * u) v)
  high_at v e h = subst (λ x. IsNearest u n x (λ _. IsMultiple (2 * u) x)) (sym e) h

  at_tie : (count : ℕ) → 2 * (n % u) ≡ u → count ≡ n / u + n / u % 2 → (n / u % 2 ≡ 0) ⊎ (n / u % 2 ≡ 1) → IsNearest u n (count * u) (λ _. IsMultiple (2 * u) (count * u))
  at_tie count t e (inl z) = let same : count ≡ n / u = omega arith in low_at (count * u) (ap (λ x. x * u) same) (lower (omega arith) (λ _. z))
  at_tie count t e (inr o) = let same : count ≡ n / u + 1 = omega arith in high_at (count * u) (ap (λ x. x * u) same ∙ sym (upper_count (n / u) u)) (upper (omega arith) (λ _. omega arith))

  nearest_at : (count : ℕ) → CountedBy u (n / u) (n % u) count → IsNearest u n (count * u) (λ _. IsMultiple (2 * u) (count * u))
  nearest_at count (under l e) = low_at (count * u) (ap (λ x. x * u) e) (lower (omega arith) (λ t. absurd (omega arith)))
  nearest_at count (over l e) = high_at (count * u) (ap (λ x. x * u) e ∙ sym (upper_count (n / u) u)) (upper (omega arith) (λ t. absurd (omega arith)))
  nearest_at count (tie t e) = at_tie count t e (⊎_elim (λ l. inl (omega arith)) (λ l. inr (omega arith)) (cases_lt (n / u % 2) 1))

  pub even_nearest : IsNearest u n (even_count u n * u) (λ _. IsMultiple (2 * u) (even_count u n * u))
  even_nearest = nearest_at (even_count u n) (counted u n)
