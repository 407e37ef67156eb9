-- The nearest showable value is the nearest multiple of the number's own unit, and so the laws of the shown value.
use Rattle.std.proofs.Common.{◌≡◌, ◌≢◌, ℕ, suc, ◌+◌, ◌-◌, ◌*◌, ◌/◌, ◌%◌, ◌^◌, ◌<◌, ◌≤◌, ◌⊎◌, refl, sym, ap, ◌∙◌, subst, arith, inl, inr, ⊎_elim}
use Rattle.std.proofs.Math.Nat.{div-add-mod', eq-zero-or-pos, mod-lt, zero-mul}
use Rattle.std.proofs.lemmas.Bool.{cases_lt}
use Rattle.fixed_decimal.specs.Rounding.{IsMultiple, IsNearest, distance}
use Rattle.fixed_decimal.proofs.TenLemmas.{tens_apart, tens_positive}
use Rattle.icu_decimal_compact_value.specs.ShownValue.{IsShowable, IsShown, magnitude, shown_value, unit, unit_place}
use Rattle.icu_decimal_compact_value.proofs.MagnitudeLemmas.{IsTop, magnitude_top, magnitude_unique}
use Rattle.icu_decimal_compact_value.proofs.NearestLemmas.{even_nearest}
use Rattle.icu_decimal_compact_value.proofs.RoundingLemmas.{even_is, power_multiple}

-- w is farther from n than one of the two powers of ten around n
data IsFar (k n w : ℕ) : Type 0 where
  low : distance n (10 ^ k) < distance n w → IsFar k n w
  high : distance n (10 ^ suc k) < distance n w → IsFar k n w

far_below : (n a w : ℕ) → a ≤ n → w < a → distance n a < distance n w
far_below n a w h l = omega arith

far_above : (n b w : ℕ) → n < b → b < w → distance n b < distance n w
far_above n b w h l = omega arith

module _ (ones : ℕ) (e : ℕ → ℕ) where
  showable_of : (k v : ℕ) → IsTop v k → IsMultiple (10 ^ unit_place e k) v → IsShowable ones e v
  showable_of k v t m = subst (λ j. IsMultiple (10 ^ unit_place e j) v) (sym (magnitude_unique ones v k t)) m

  power_showable : (k : ℕ) → IsShowable ones e (10 ^ k)
  power_showable k = let p = tens_positive k in showable_of k (10 ^ k) (record { reaches = omega arith; below = omega arith }) (power_multiple (unit_place e k) k (omega arith))

  zero_showable : IsShowable ones e 0
  zero_showable = (0, sym (zero-mul (unit ones e 0)))

  module _ (n : ℕ) (p : 0 < n) where
    top : IsTop n (magnitude ones n)
    top = magnitude_top ones n p

    -- a value is between the powers, or far
    placed : (w : ℕ) → ((10 ^ magnitude ones n ≤ w) × (w ≤ 10 ^ suc (magnitude ones n))) ⊎ IsFar (magnitude ones n) n w
    placed w =
        let t = top in
        ⊎_elim (λ l. inr (low (far_below n (10 ^ magnitude ones n) w t.reaches l)))
        (λ a. ⊎_elim (λ l. inr (high (far_above n (10 ^ suc (magnitude ones n)) w t.below l))) (λ b. inl (a, b)) (cases_lt (10 ^ suc (magnitude ones n)) w))
        (cases_lt w (10 ^ magnitude ones n))

    -- between the powers, the showable values are the multiples of the unit
    between_showable : (w : ℕ) → 10 ^ magnitude ones n ≤ w → w ≤ 10 ^ suc (magnitude ones n) → IsMultiple (unit ones e n) w → IsShowable ones e w
    between_showable w a b m = ⊎_elim (λ l. showable_of (magnitude ones n) w (record { reaches = a; below = l }) m)
        (λ l. let same : w ≡ 10 ^ suc (magnitude ones n) = omega arith in subst (IsShowable ones e) (sym same) (power_showable (suc (magnitude ones n))))
        (cases_lt w (10 ^ suc (magnitude ones n)))

    between_multiple : (w : ℕ) → 10 ^ magnitude ones n ≤ w → w ≤ 10 ^ suc (magnitude ones n) → IsShowable ones e w → IsMultiple (unit ones e n) w
    between_multiple w a b m = ⊎_elim (λ l. subst (λ j. IsMultiple (10 ^ unit_place e j) w) (magnitude_unique ones w (magnitude ones n) (record { reaches = a; below = l })) m)
        (λ l. let same : w ≡ 10 ^ suc (magnitude ones n) = omega arith in subst (IsMultiple (unit ones e n)) (sym same) (power_multiple (unit_place e (magnitude ones n)) (suc (magnitude ones n)) (omega arith)))
        (cases_lt w (10 ^ suc (magnitude ones n)))

    low_multiple : IsMultiple (unit ones e n) (10 ^ magnitude ones n)
    low_multiple = power_multiple (unit_place e (magnitude ones n)) (magnitude ones n) (omega arith)

    high_multiple : IsMultiple (unit ones e n) (10 ^ suc (magnitude ones n))
    high_multiple = power_multiple (unit_place e (magnitude ones n)) (suc (magnitude ones n)) (omega arith)

    module _ (v : ℕ) (a : distance n v ≤ distance n (10 ^ magnitude ones n)) (b : distance n v ≤ distance n (10 ^ suc (magnitude ones n))) where
      far_farther : (w : ℕ) → IsFar (magnitude ones n) n w → distance n v < distance n w
      far_farther w (low l) = omega arith
      far_farther w (high l) = omega arith

      stands : (10 ^ magnitude ones n ≤ v) × (v ≤ 10 ^ suc (magnitude ones n))
      stands = ⊎_elim (λ s. s) (λ f. let l = far_farther v f in absurd (omega arith)) (placed v)

      nearest_of : (Good Other : ℕ → Type 0) → ((w : ℕ) → 10 ^ magnitude ones n ≤ w → w ≤ 10 ^ suc (magnitude ones n) → Other w → Good w) → ((w : ℕ) → Good w → distance n v ≤ distance n w) → (w : ℕ) → Other w → distance n v ≤ distance n w
      nearest_of Good Other turn near w o = ⊎_elim (λ s. near w (turn w s.0 s.1 o)) (λ f. let l = far_farther w f in omega arith) (placed w)

      tied_of : (Good Other : ℕ → Type 0) (Even : Type 0) → ((w : ℕ) → 10 ^ magnitude ones n ≤ w → w ≤ 10 ^ suc (magnitude ones n) → Other w → Good w) → ((w : ℕ) → Good w → w ≢ v → distance n w ≡ distance n v → Even) → (w : ℕ) → Other w → w ≢ v → distance n w ≡ distance n v → Even
      tied_of Good Other Even turn tied w o ne d = ⊎_elim (λ s. tied w (turn w s.0 s.1 o) ne d) (λ f. let l = far_farther w f in absurd (omega arith)) (placed w)

    rounded_some : (v : ℕ) → IsNearest (unit ones e n) n v (λ _. IsMultiple (2 * unit ones e n) v) → IsShown ones e n v
    rounded_some v h =
        let a = h.nearest (10 ^ magnitude ones n) low_multiple in
        let b = h.nearest (10 ^ suc (magnitude ones n)) high_multiple in
        let s = stands v a b in
        record {
          showable = between_showable v s.0 s.1 h.multiple;
          nearest = nearest_of v a b (IsMultiple (unit ones e n)) (IsShowable ones e) between_multiple h.nearest;
          tied = tied_of v a b (IsMultiple (unit ones e n)) (IsShowable ones e) (IsMultiple (2 * unit ones e n) v) between_multiple h.tied;
        }

    shown_some : (v : ℕ) → IsShown ones e n v → IsNearest (unit ones e n) n v (λ _. IsMultiple (2 * unit ones e n) v)
    shown_some v h =
        let a = h.nearest (10 ^ magnitude ones n) (power_showable (magnitude ones n)) in
        let b = h.nearest (10 ^ suc (magnitude ones n)) (power_showable (suc (magnitude ones n))) in
        let s = stands v a b in
        record {
          multiple = between_multiple v s.0 s.1 h.showable;
          nearest = nearest_of v a b (IsShowable ones e) (IsMultiple (unit ones e n)) between_showable h.nearest;
          tied = tied_of v a b (IsShowable ones e) (IsMultiple (unit ones e n)) (IsMultiple (2 * unit ones e n) v) between_showable h.tied;
        }

  -- zero is shown as itself, and is its own nearest multiple
  zero_shown : (v : ℕ) → IsShown ones e 0 v → v ≡ 0
  zero_shown v h = let d = h.nearest 0 zero_showable in omega arith

  zero_rounded : (v : ℕ) → IsNearest (unit ones e 0) 0 v (λ _. IsMultiple (2 * unit ones e 0) v) → v ≡ 0
  zero_rounded v h = let d = h.nearest 0 (0, sym (zero-mul (unit ones e 0))) in omega arith

  zero_is_shown : IsShown ones e 0 0
  zero_is_shown = record { showable = zero_showable; nearest = λ w m. omega arith; tied = λ w m ne d. absurd (ne (omega arith)) }

  zero_is_rounded : IsNearest (unit ones e 0) 0 0 (λ _. IsMultiple (2 * unit ones e 0) 0)
  zero_is_rounded = record { multiple = (0, sym (zero-mul (unit ones e 0))); nearest = λ w m. omega arith; tied = λ w m ne d. absurd (ne (omega arith)) }

  rounded_none : (n v : ℕ) → n ≡ 0 → IsNearest (unit ones e n) n v (λ _. IsMultiple (2 * unit ones e n) v) → IsShown ones e n v
  rounded_none n v z h =
      let at = subst (λ m. IsNearest (unit ones e m) m v (λ _. IsMultiple (2 * unit ones e m) v)) z h in
      subst (λ m. IsShown ones e m v) (sym z) (subst (IsShown ones e 0) (sym (zero_rounded v at)) zero_is_shown)

  shown_none : (n v : ℕ) → n ≡ 0 → IsShown ones e n v → IsNearest (unit ones e n) n v (λ _. IsMultiple (2 * unit ones e n) v)
  shown_none n v z h =
      let at = subst (λ m. IsShown ones e m v) z h in
      subst (λ m. IsNearest (unit ones e m) m v (λ _. IsMultiple (2 * unit ones e m) v)) (sym z) (subst (λ x. IsNearest (unit ones e 0) 0 x (λ _. IsMultiple (2 * unit ones e 0) x)) (sym (zero_shown v at)) zero_is_rounded)

  pub rounded_is_shown : (n v : ℕ) → IsNearest (unit ones e n) n v (λ _. IsMultiple (2 * unit ones e n) v) → IsShown ones e n v
  rounded_is_shown n v h = ⊎_elim (λ z. rounded_none n v z h) (λ p. rounded_some n p v h) (eq-zero-or-pos n)

  pub shown_is_rounded : (n v : ℕ) → IsShown ones e n v → IsNearest (unit ones e n) n v (λ _. IsMultiple (2 * unit ones e n) v)
  shown_is_rounded n v h = ⊎_elim (λ z. shown_none n v z h) (λ p. shown_some n p v h) (eq-zero-or-pos n)

  pub rule_shows : (n : ℕ) → IsShown ones e n (shown_value ones e n)
  rule_shows n = rounded_is_shown n (shown_value ones e n) (even_nearest (unit ones e n) n (tens_positive (unit_place e (magnitude ones n))))

  pub shown_is_rule : (n v : ℕ) → IsShown ones e n v → v ≡ shown_value ones e n
  shown_is_rule n v h = even_is (unit ones e n) n v (tens_positive (unit_place e (magnitude ones n))) (shown_is_rounded n v h)

  pub one_shown : (n v w : ℕ) → IsShown ones e n v → IsShown ones e n w → v ≡ w
  one_shown n v w a b = shown_is_rule n v a ∙ sym (shown_is_rule n w b)

  pub order_kept : (n m v w : ℕ) → IsShown ones e n v → IsShown ones e m w → n < m → v ≤ w
  order_kept n m v w a b l = let c = a.nearest w b.showable in let d = b.nearest v a.showable in ⊎_elim (λ k. absurd (omega arith)) (λ k. k) (cases_lt w v)

  pub shows_itself : (n v : ℕ) → IsShowable ones e n → IsShown ones e n v → v ≡ n
  shows_itself n v s h = let d = h.nearest n s in omega arith

  half_unit : (u q r n v : ℕ) → q * u + r ≡ n → r < u → distance n v ≤ distance n (q * u) → distance n v ≤ distance n (q * u + u) → 2 * distance n v ≤ u
  half_unit u q r n v h l a b = omega arith

  near_by : (p k n d : ℕ) → p ≤ k - 1 → 10 ^ k ≤ n → 2 * d ≤ 10 ^ p → 20 * d ≤ n
  near_by p k n d l t h = ⊎_elim
      (λ z. let one : p ≡ 0 = omega arith in let u : 10 ^ p ≡ 1 = ap (λ x. 10 ^ x) one in omega arith)
      (λ s. let up = tens_apart (suc p) k (omega arith) in omega arith)
      (cases_lt k 1)

  pub shown_near : (n v : ℕ) → IsShown ones e n v → 20 * distance n v ≤ n
  shown_near n v h = ⊎_elim
      (λ z. let same : v ≡ 0 = zero_shown v (subst (λ m. IsShown ones e m v) z h) in omega arith)
      (λ p. let r = shown_is_rounded n v h in let t = top n p in
      near_by (unit_place e (magnitude ones n)) (magnitude ones n) n (distance n v) (omega arith) t.reaches
      (half_unit (unit ones e n) (n / unit ones e n) (n % unit ones e n) n v (div-add-mod' n (unit ones e n)) (mod-lt n (tens_positive (unit_place e (magnitude ones n))))
      (r.nearest (n / unit ones e n * unit ones e n) (n / unit ones e n, refl))
      (r.nearest (n / unit ones e n * unit ones e n + unit ones e n) (n / unit ones e n + 1, upper (n / unit ones e n) (unit ones e n)))))
      (eq-zero-or-pos n)
    where
      upper : (q u : ℕ) → q * u + u ≡ (q + 1) * u
      upper q u = omega arith

  pub zero_for_zero : (n : ℕ) → IsShown ones e n 0 → n ≡ 0
  zero_for_zero n h = let s = shown_near n 0 h in omega arith
