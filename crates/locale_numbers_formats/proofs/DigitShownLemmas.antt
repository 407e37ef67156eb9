-- What is shown is a multiple of its own unit, so it shows itself; how far it is from its number.
use Rattle.std.proofs.Common.{◌≡◌, ℕ, zero, suc, ◌+◌, ◌*◌, ◌/◌, ◌%◌, ◌^◌, ◌<◌, ◌≤◌, ◌⊎◌, refl, sym, subst, arith, inl, inr, ⊎_elim}
use Rattle.std.proofs.Math.Nat.{div-add-mod', eq-zero-or-pos, mod-lt, zero-mul}
use Rattle.std.proofs.lemmas.Bool.{cases_lt}
use Rattle.fixed_decimal.specs.Rounding.{IsMultiple, IsNearest, IsRounded, distance}
use Rattle.fixed_decimal.specs.declared.UnsignedRoundingMode.{UnsignedRoundingMode}
use Rattle.fixed_decimal.specs.declared.UnsignedRoundingMode.TheVariants.{HalfExpand, HalfTrunc, HalfEven}
use Rattle.fixed_decimal.proofs.TenLemmas.{tens_apart, tens_positive}
use Rattle.icu_decimal_compact_value.specs.ShownValue.{magnitude}
use Rattle.icu_decimal_compact_value.proofs.MagnitudeLemmas.{IsTop, magnitude_top, magnitude_unique}
use Rattle.icu_decimal_compact_value.proofs.RoundingLemmas.{power_multiple}
use Rattle.locale_numbers_formats.specs.Changed.{significant_place}
use Rattle.locale_numbers_formats.specs.DigitLaws.{finer_place, coarser_place, IsNear, IsShownBy, NearestIsNear, ShowsItself}
use Rattle.locale_numbers_formats.proofs.DigitOrderLemmas.{close, Fits, significant_fits, finer_fits, coarser_fits}

-- a multiple of a unit is what is near it
itself : (mode : UnsignedRoundingMode) (unit v w : ℕ) → IsMultiple unit v → IsRounded mode unit v w → w ≡ v
itself mode unit v w m h =
    let a = (close mode unit v w h).under v m (omega arith) in
    let b = (close mode unit v w h).over v m (omega arith) in
    omega arith

-- a multiple of a unit that is not above it is zero or the unit
none_or_unit : (unit v : ℕ) → IsMultiple unit v → v ≤ unit → (v ≡ 0) ⊎ (v ≡ unit)
none_or_unit unit v (zero, e) l = inl (omega arith)
none_or_unit unit v (suc zero, e) l = inr (omega arith)
none_or_unit unit v (suc (suc c), e) l = ⊎_elim (λ z. inl (omega arith)) (λ p. absurd (omega arith)) (eq-zero-or-pos unit)

module _ (place : ℕ → ℕ) (fits : Fits place) (mode : UnsignedRoundingMode) (ones : ℕ) where
  zero_multiple : (k : ℕ) → IsMultiple (10 ^ k) 0
  zero_multiple k = (0, sym (zero-mul (10 ^ k)))

  power_place : (k : ℕ) → (10 ^ k ≡ 10 ^ k) → place k ≤ k → IsMultiple (10 ^ place (magnitude ones (10 ^ k))) (10 ^ k)
  power_place k e l = let p = tens_positive k in
      subst (λ j. IsMultiple (10 ^ place j) (10 ^ k)) (sym (magnitude_unique ones (10 ^ k) k (record { reaches = omega arith; below = omega arith }))) (power_multiple (place k) k l)

  next_place : (k : ℕ) → place k ≤ k → place (suc k) ≤ suc k
  next_place k l = ⊎_elim (λ f. f.1) (λ e. omega arith) (fits k (suc k) (omega arith))

  low : (n v : ℕ) → IsShownBy mode place ones n v → 0 < n → place (magnitude ones n) ≤ magnitude ones n → IsMultiple (10 ^ place (magnitude ones v)) v
  low n v a p l =
      let t : IsTop n (magnitude ones n) = magnitude_top ones n p in
      let reach = t.reaches in
      let below = t.below in
      let c = close mode (10 ^ place (magnitude ones n)) n v a in
      let x = c.over (10 ^ magnitude ones n) (power_multiple (place (magnitude ones n)) (magnitude ones n) l) reach in
      let y = c.under (10 ^ suc (magnitude ones n)) (power_multiple (place (magnitude ones n)) (suc (magnitude ones n)) (omega arith)) (omega arith) in
      ⊎_elim
      (λ s. subst (λ j. IsMultiple (10 ^ place j) v) (sym (magnitude_unique ones v (magnitude ones n) (record { reaches = x; below = s }))) c.multiple)
      (λ s. let e : v ≡ 10 ^ suc (magnitude ones n) = omega arith in subst (λ u. IsMultiple (10 ^ place (magnitude ones u)) u) (sym e) (power_place (suc (magnitude ones n)) refl (next_place (magnitude ones n) l)))
      (cases_lt v (10 ^ suc (magnitude ones n)))

  high_place : (k : ℕ) → k < place k → place (place k) ≤ place k
  high_place k l = ⊎_elim (λ f. f.1) (λ e. omega arith) (fits k (place k) l)

  high : (n v : ℕ) → IsShownBy mode place ones n v → 0 < n → magnitude ones n < place (magnitude ones n) → IsMultiple (10 ^ place (magnitude ones v)) v
  high n v a p l =
      let t : IsTop n (magnitude ones n) = magnitude_top ones n p in
      let below = t.below in
      let c = close mode (10 ^ place (magnitude ones n)) n v a in
      let wide = tens_apart (suc (magnitude ones n)) (place (magnitude ones n)) l in
      let y = c.under (10 ^ place (magnitude ones n)) (power_multiple (place (magnitude ones n)) (place (magnitude ones n)) (omega arith)) (omega arith) in
      ⊎_elim
      (λ z. subst (λ u. IsMultiple (10 ^ place (magnitude ones u)) u) (sym z) (zero_multiple (place (magnitude ones 0))))
      (λ e. subst (λ u. IsMultiple (10 ^ place (magnitude ones u)) u) (sym e) (power_place (place (magnitude ones n)) refl (high_place (magnitude ones n) l)))
      (none_or_unit (10 ^ place (magnitude ones n)) v c.multiple y)

  from_zero : (n v : ℕ) → n ≡ 0 → IsShownBy mode place ones n v → IsMultiple (10 ^ place (magnitude ones v)) v
  from_zero n v z a =
      let x = (close mode (10 ^ place (magnitude ones n)) n v a).under 0 (zero_multiple (place (magnitude ones n))) (omega arith) in
      let e : v ≡ 0 = omega arith in
      subst (λ u. IsMultiple (10 ^ place (magnitude ones u)) u) (sym e) (zero_multiple (place (magnitude ones 0)))

  own_multiple : (n v : ℕ) → IsShownBy mode place ones n v → IsMultiple (10 ^ place (magnitude ones v)) v
  own_multiple n v a = ⊎_elim (λ z. from_zero n v z a) (λ p. ⊎_elim (λ l. high n v a p l) (λ l. low n v a p l) (cases_lt (magnitude ones n) (place (magnitude ones n)))) (eq-zero-or-pos n)

  shows : (n v w : ℕ) → IsShownBy mode place ones n v → IsShownBy mode place ones v w → w ≡ v
  shows n v w a b = itself mode (10 ^ place (magnitude ones v)) v w (own_multiple n v a) b

shows_itself : (place : ℕ → ℕ) → Fits place → ShowsItself place
shows_itself place fits mode ones n v w a b = shows place fits mode ones n v w a b

pub significant_shows : (digits : ℕ) → ShowsItself (significant_place digits)
significant_shows digits = shows_itself (significant_place digits) (significant_fits digits)

pub finer_shows : (digits place : ℕ) → ShowsItself (finer_place digits place)
finer_shows digits place = shows_itself (finer_place digits place) (finer_fits digits place)

pub coarser_shows : (digits place : ℕ) → ShowsItself (coarser_place digits place)
coarser_shows digits place = shows_itself (coarser_place digits place) (coarser_fits digits place)

zero_some : (digits : ℕ) (mode : UnsignedRoundingMode) (ones n : ℕ) → IsShownBy mode (significant_place digits) ones n 0 → 0 < n → n ≡ 0
zero_some digits mode ones n a p =
    let t : IsTop n (magnitude ones n) = magnitude_top ones n p in
    let some = tens_positive (magnitude ones n) in
    let x = (close mode (10 ^ significant_place digits (magnitude ones n)) n 0 a).over (10 ^ magnitude ones n) (power_multiple (significant_place digits (magnitude ones n)) (magnitude ones n) (omega arith)) t.reaches in
    absurd (omega arith)

pub zero_for_zero : (digits : ℕ) (mode : UnsignedRoundingMode) (ones n : ℕ) → IsShownBy mode (significant_place digits) ones n 0 → n ≡ 0
zero_for_zero digits mode ones n a = ⊎_elim (λ z. z) (λ p. zero_some digits mode ones n a p) (eq-zero-or-pos n)

half_unit : (u q r n v : ℕ) → q * u + r ≡ n → r < u → distance n v ≤ distance n (q * u) → distance n v ≤ distance n (q * u + u) → 2 * distance n v ≤ u
half_unit u q r n v h l a b = omega arith

upper : (q u : ℕ) → q * u + u ≡ (q + 1) * u
upper q u = omega arith

nearest_near : (u n v : ℕ) (takes : ℕ → Type 0) → 0 < u → IsNearest u n v takes → 2 * distance n v ≤ u
nearest_near u n v takes p h = half_unit u (n / u) (n % u) n v (div-add-mod' n u) (mod-lt n p) (h.nearest (n / u * u) (n / u, refl)) (h.nearest (n / u * u + u) (n / u + 1, upper (n / u) u))

near_place : (place : ℕ → ℕ) (ones n v : ℕ) (takes : ℕ → Type 0) → IsNearest (10 ^ place (magnitude ones n)) n v takes → 2 * distance n v ≤ 10 ^ place (magnitude ones n)
near_place place ones n v takes h = nearest_near (10 ^ place (magnitude ones n)) n v takes (tens_positive (place (magnitude ones n))) h

near_expand : IsNear HalfExpand
near_expand place ones n v h = near_place place ones n v (λ other. other ≤ v) h

near_trunc : IsNear HalfTrunc
near_trunc place ones n v h = near_place place ones n v (λ other. v ≤ other) h

near_even : IsNear HalfEven
near_even place ones n v h = near_place place ones n v (λ _. IsMultiple (2 * 10 ^ place (magnitude ones n)) v) h

pub near : NearestIsNear
near = (near_expand, near_trunc, near_even)
