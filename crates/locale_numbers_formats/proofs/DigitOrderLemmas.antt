-- A rounding to a place that goes by the magnitude keeps the order, where the powers of ten between two numbers are multiples
-- of both units, or the units are one.
use Rattle.std.proofs.Common.{◌≡◌, ℕ, suc, ◌*◌, ◌^◌, ◌<◌, ◌≤◌, ◌⊎◌, refl, sym, subst, arith, inl, inr, ⊎_elim}
use Rattle.std.proofs.Math.Nat.{eq-zero-or-pos, zero-mul}
use Rattle.std.proofs.lemmas.Bool.{cases_lt}
use Rattle.fixed_decimal.specs.Rounding.{IsMultiple, IsNearest, IsRounded}
use Rattle.fixed_decimal.specs.declared.UnsignedRoundingMode.{UnsignedRoundingMode}
use Rattle.fixed_decimal.specs.declared.UnsignedRoundingMode.TheVariants.{Expand, Trunc, HalfExpand, HalfTrunc, HalfEven}
use Rattle.fixed_decimal.proofs.TenLemmas.{tens_apart}
use Rattle.icu_decimal_compact_value.specs.ShownValue.{magnitude}
use Rattle.icu_decimal_compact_value.proofs.MagnitudeLemmas.{IsTop, magnitude_top}
use Rattle.icu_decimal_compact_value.proofs.RoundingLemmas.{power_multiple}
use Rattle.locale_numbers_formats.specs.Changed.{significant_place}
use Rattle.locale_numbers_formats.specs.DigitLaws.{fixed_place, finer_place, coarser_place, IsShownBy, KeepsOrder}

-- what all modes have in common: a multiple, and no multiple between the number and it
pub record IsCloseTo (unit n v : ℕ) : Type 0 where
  pub multiple : IsMultiple unit v
  pub under : (b : ℕ) → IsMultiple unit b → n ≤ b → v ≤ b
  pub over : (b : ℕ) → IsMultiple unit b → b ≤ n → b ≤ v

nearest_close : (unit n v : ℕ) (takes : ℕ → Type 0) → IsNearest unit n v takes → IsCloseTo unit n v
nearest_close unit n v takes h = record {
  multiple = h.multiple;
  under = λ b m l. let d = h.nearest b m in ⊎_elim (λ k. absurd (omega arith)) (λ k. k) (cases_lt b v);
  over = λ b m l. let d = h.nearest b m in ⊎_elim (λ k. absurd (omega arith)) (λ k. k) (cases_lt v b);
}

pub close : (mode : UnsignedRoundingMode) (unit n v : ℕ) → IsRounded mode unit n v → IsCloseTo unit n v
close Expand unit n v h = record { multiple = h.multiple; under = λ b m l. h.least b m l; over = λ b m l. let o = h.over in omega arith }
close Trunc unit n v h = record { multiple = h.multiple; under = λ b m l. let o = h.under in omega arith; over = λ b m l. h.greatest b m l }
close HalfExpand unit n v h = nearest_close unit n v (λ other. other ≤ v) h
close HalfTrunc unit n v h = nearest_close unit n v (λ other. v ≤ other) h
close HalfEven unit n v h = nearest_close unit n v (λ _. IsMultiple (2 * unit) v) h

nearest_order : (unit n m v w : ℕ) (f g : ℕ → Type 0) → IsNearest unit n v f → IsNearest unit m w g → n < m → v ≤ w
nearest_order unit n m v w f g a b l = let c = a.nearest w b.multiple in let d = b.nearest v a.multiple in ⊎_elim (λ k. absurd (omega arith)) (λ k. k) (cases_lt w v)

-- under one unit
one_unit : (mode : UnsignedRoundingMode) (unit n m v w : ℕ) → IsRounded mode unit n v → IsRounded mode unit m w → n < m → v ≤ w
one_unit Expand unit n m v w a b l = let o = b.over in a.least w b.multiple (omega arith)
one_unit Trunc unit n m v w a b l = let o = a.under in b.greatest v a.multiple (omega arith)
one_unit HalfExpand unit n m v w a b l = nearest_order unit n m v w (λ other. other ≤ v) (λ other. other ≤ w) a b l
one_unit HalfTrunc unit n m v w a b l = nearest_order unit n m v w (λ other. v ≤ other) (λ other. w ≤ other) a b l
one_unit HalfEven unit n m v w a b l = nearest_order unit n m v w (λ _. IsMultiple (2 * unit) v) (λ _. IsMultiple (2 * unit) w) a b l

-- a place for each magnitude, under which numbers of two magnitudes have a power of ten between them, or one unit
abbrev pub Fits : (ℕ → ℕ) → Type 0
Fits place = (j k : ℕ) → j < k → ((place j ≤ k) × (place k ≤ k)) ⊎ (place j ≡ place k)

module _ (place : ℕ → ℕ) (fits : Fits place) (mode : UnsignedRoundingMode) (ones : ℕ) where
  apart : (n m v w : ℕ) → IsShownBy mode place ones n v → IsShownBy mode place ones m w → n < m → 0 < n → magnitude ones n < magnitude ones m → v ≤ w
  apart n m v w a b l p far =
      let t : IsTop n (magnitude ones n) = magnitude_top ones n p in
      let s : IsTop m (magnitude ones m) = magnitude_top ones m (omega arith) in
      let reach = s.reaches in
      let below = t.below in
      let between : 10 ^ suc (magnitude ones n) ≤ 10 ^ magnitude ones m = tens_apart (suc (magnitude ones n)) (magnitude ones m) far in
      ⊎_elim
      (λ f. let x = (close mode (10 ^ place (magnitude ones n)) n v a).under (10 ^ magnitude ones m) (power_multiple (place (magnitude ones n)) (magnitude ones m) f.0) (omega arith) in
      let y = (close mode (10 ^ place (magnitude ones m)) m w b).over (10 ^ magnitude ones m) (power_multiple (place (magnitude ones m)) (magnitude ones m) f.1) reach in omega arith)
      (λ e. one_unit mode (10 ^ place (magnitude ones m)) n m v w (subst (λ q. IsRounded mode (10 ^ q) n v) e a) b l)
      (fits (magnitude ones n) (magnitude ones m) far)

  same : (n m v w : ℕ) → IsShownBy mode place ones n v → IsShownBy mode place ones m w → n < m → magnitude ones n ≡ magnitude ones m → v ≤ w
  same n m v w a b l e = one_unit mode (10 ^ place (magnitude ones m)) n m v w (subst (λ k. IsRounded mode (10 ^ place k) n v) e a) b l

  grows : (n m : ℕ) → 0 < n → n < m → magnitude ones n ≤ magnitude ones m
  grows n m p l = ⊎_elim
      (λ back. let t : IsTop n (magnitude ones n) = magnitude_top ones n p in
      let s : IsTop m (magnitude ones m) = magnitude_top ones m (omega arith) in
      let reach = t.reaches in
      let below = s.below in
      let between : 10 ^ suc (magnitude ones m) ≤ 10 ^ magnitude ones n = tens_apart (suc (magnitude ones m)) (magnitude ones n) back in absurd (omega arith))
      (λ k. k)
      (cases_lt (magnitude ones m) (magnitude ones n))

  from_zero : (n v w : ℕ) → n ≡ 0 → IsShownBy mode place ones n v → v ≤ w
  from_zero n v w z a = let x = (close mode (10 ^ place (magnitude ones n)) n v a).under 0 (0, sym (zero-mul (10 ^ place (magnitude ones n)))) (omega arith) in omega arith

  from_some : (n m v w : ℕ) → IsShownBy mode place ones n v → IsShownBy mode place ones m w → n < m → 0 < n → v ≤ w
  from_some n m v w a b l p = ⊎_elim
      (λ far. apart n m v w a b l p far)
      (λ near. let g = grows n m p l in let e : magnitude ones n ≡ magnitude ones m = omega arith in same n m v w a b l e)
      (cases_lt (magnitude ones n) (magnitude ones m))

  kept : (n m v w : ℕ) → IsShownBy mode place ones n v → IsShownBy mode place ones m w → n < m → v ≤ w
  kept n m v w a b l = ⊎_elim (λ z. from_zero n v w z a) (λ p. from_some n m v w a b l p) (eq-zero-or-pos n)

order_kept : (place : ℕ → ℕ) → Fits place → KeepsOrder place
order_kept place fits mode ones n m v w a b l = kept place fits mode ones n m v w a b l

pub significant_fits : (digits : ℕ) → Fits (significant_place digits)
significant_fits digits j k l = inl (omega arith, omega arith)

pub fixed_fits : (place : ℕ) → Fits (fixed_place place)
fixed_fits place j k l = inr refl

pub finer_fits : (digits place : ℕ) → Fits (finer_place digits place)
finer_fits digits place j k l = inl (omega arith, omega arith)

pub coarser_fits : (digits place : ℕ) → Fits (coarser_place digits place)
coarser_fits digits place j k l = ⊎_elim (λ h. inr (omega arith)) (λ h. inl (omega arith, omega arith)) (cases_lt k place)

pub significant_keeps : (digits : ℕ) → KeepsOrder (significant_place digits)
significant_keeps digits = order_kept (significant_place digits) (significant_fits digits)

pub place_keeps : (place : ℕ) → KeepsOrder (fixed_place place)
place_keeps place = order_kept (fixed_place place) (fixed_fits place)

pub finer_keeps : (digits place : ℕ) → KeepsOrder (finer_place digits place)
finer_keeps digits place = order_kept (finer_place digits place) (finer_fits digits place)

pub coarser_keeps : (digits place : ℕ) → KeepsOrder (coarser_place digits place)
coarser_keeps digits place = order_kept (coarser_place digits place) (coarser_fits digits place)
