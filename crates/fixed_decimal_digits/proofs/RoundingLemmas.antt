-- The table of the modes picks the multiple that the definition names.
use Rattle.std.proofs.Common.{◌≡◌, ◌≢◌, ℕ, ◌+◌, ◌*◌, ◌/◌, ◌%◌, ◌<◌, ◌≤◌, ◌⊎◌, Bool, true, false, cond, refl, sym, ap, ◌∙◌, subst, arith, inl, inr, ⊎_elim}
use Rattle.std.proofs.Math.Nat.{mul-le-mul_right}
use Rattle.std.proofs.lemmas.Bool.{cases_lt}
use Rattle.std.specs.declared.cmp.Ordering.{Ordering}
use Rattle.std.specs.declared.cmp.Ordering.TheVariants.{Less, Equal, Greater}
use Rattle.fixed_decimal_digits.specs.declared.modes.UnsignedRoundingMode.{UnsignedRoundingMode}
use Rattle.fixed_decimal_digits.specs.declared.modes.UnsignedRoundingMode.TheVariants.{Expand, Trunc, HalfExpand, HalfTrunc, HalfEven}
use Rattle.fixed_decimal_digits.specs.Rounding.{IsMultiple, IsTruncated, IsExpanded, IsNearest, IsRounded, distance}
use Rattle.fixed_decimal_digits.specs.RoundingSteps.{Compares, takes_upper_of}

pub upper_count : (q unit : ℕ) → q * unit + unit ≡ (q + 1) * unit
upper_count q unit = omega arith

above_side : (q unit other c : ℕ) → q < c → other ≡ c * unit → q * unit + unit ≤ other
above_side q unit other c l e = let h : q + 1 ≤ c = omega arith in omega (arith, mul-le-mul_right {m = q + 1} {n = c} unit h)

-- a multiple is at or below the lower one, or at or above the upper one
pub sides : (q unit other : ℕ) → IsMultiple unit other → (other ≤ q * unit) ⊎ (q * unit + unit ≤ other)
sides q unit other m = ⊎_elim (λ l. inr (above_side q unit other m.0 l m.1)) (λ l. inl (omega (arith, mul-le-mul_right {m = m.0} {n = q} unit l, m.1))) (cases_lt q m.0)

pub truncated : (unit q r n : ℕ) → n ≡ q * unit + r → r < unit → IsTruncated unit n (q * unit)
truncated unit q r n e l = record {
  multiple = (q, refl);
  under = omega arith;
  greatest = λ other m h. ⊎_elim (λ a. a) (λ a. absurd (omega arith)) (sides q unit other m);
}

pub expanded : (unit q r n : ℕ) → n ≡ q * unit + r → 0 < r → r < unit → IsExpanded unit n (q * unit + unit)
expanded unit q r n e p l = record {
  multiple = (q + 1, upper_count q unit);
  over = omega arith;
  least = λ other m h. ⊎_elim (λ a. absurd (omega arith)) (λ a. a) (sides q unit other m);
}

pub near_lower : (unit low r n other : ℕ) → n ≡ low + r → 2 * r ≤ unit → (other ≤ low) ⊎ (low + unit ≤ other) → distance n low ≤ distance n other
near_lower unit low r n other e h (inl a) = omega arith
near_lower unit low r n other e h (inr a) = omega arith

tie_lower : (unit low r n other : ℕ) → n ≡ low + r → 2 * r ≤ unit → 0 < r → other ≢ low → distance n other ≡ distance n low → (other ≤ low) ⊎ (low + unit ≤ other) → (2 * r ≡ unit) × (other ≡ low + unit)
tie_lower unit low r n other e h p ne d (inl a) = absurd (ne (omega arith))
tie_lower unit low r n other e h p ne d (inr a) = (omega arith, omega arith)

pub near_upper : (unit low r n other : ℕ) → n ≡ low + r → r < unit → unit ≤ 2 * r → (other ≤ low) ⊎ (low + unit ≤ other) → distance n (low + unit) ≤ distance n other
near_upper unit low r n other e l h (inl a) = omega arith
near_upper unit low r n other e l h (inr a) = omega arith

tie_upper : (unit low r n other : ℕ) → n ≡ low + r → r < unit → unit ≤ 2 * r → other ≢ low + unit → distance n other ≡ distance n (low + unit) → (other ≤ low) ⊎ (low + unit ≤ other) → (2 * r ≡ unit) × (other ≡ low)
tie_upper unit low r n other e l h ne d (inl a) = (omega arith, omega arith)
tie_upper unit low r n other e l h ne d (inr a) = absurd (ne (omega arith))

pub lower_nearest : (unit q r n : ℕ) (takes : ℕ → Type 0) → n ≡ q * unit + r → 0 < r → 2 * r ≤ unit → (2 * r ≡ unit → takes (q * unit + unit)) → IsNearest unit n (q * unit) takes
lower_nearest unit q r n takes e p h t = record {
  multiple = (q, refl);
  nearest = λ other m. near_lower unit (q * unit) r n other e h (sides q unit other m);
  tied = λ other m ne d. let s = tie_lower unit (q * unit) r n other e h p ne d (sides q unit other m) in subst takes (sym s.1) (t s.0);
}

pub upper_nearest : (unit q r n : ℕ) (takes : ℕ → Type 0) → n ≡ q * unit + r → r < unit → unit ≤ 2 * r → (2 * r ≡ unit → takes (q * unit)) → IsNearest unit n (q * unit + unit) takes
upper_nearest unit q r n takes e l h t = record {
  multiple = (q + 1, upper_count q unit);
  nearest = λ other m. near_upper unit (q * unit) r n other e l h (sides q unit other m);
  tied = λ other m ne d. let s = tie_upper unit (q * unit) r n other e l h ne d (sides q unit other m) in subst takes (sym s.1) (t s.0);
}

doubled : (a unit : ℕ) → a * 2 * unit ≡ a * (2 * unit)
doubled a unit = omega arith

pub even_count : (q unit : ℕ) → q % 2 ≡ 0 → IsMultiple (2 * unit) (q * unit)
even_count q unit e =
    let h : q ≡ q / 2 * 2 = omega arith in
    (q / 2, ap (λ x. x * unit) h ∙ doubled (q / 2) unit)

pub odd_count : (q unit : ℕ) → q % 2 ≡ 1 → IsMultiple (2 * unit) (q * unit + unit)
odd_count q unit e =
    let h : q + 1 ≡ (q / 2 + 1) * 2 = omega arith in
    (q / 2 + 1, upper_count q unit ∙ ap (λ x. x * unit) h ∙ doubled (q / 2 + 1) unit)

-- the table picks the multiple that the mode names
pub picks : (mode : UnsignedRoundingMode) (half : Ordering) (odd : Bool) (unit q r n : ℕ) → n ≡ q * unit + r → 0 < r → r < unit → Compares half (2 * r) unit → q % 2 ≡ cond odd 1 0
    → IsRounded mode unit n (cond (takes_upper_of mode half odd) (q * unit + unit) (q * unit))
picks Expand half odd unit q r n e p l h s = expanded unit q r n e p l
picks Trunc half odd unit q r n e p l h s = truncated unit q r n e l
picks HalfExpand Less odd unit q r n e p l h s = lower_nearest unit q r n (λ other. other ≤ q * unit) e p (omega arith) (λ t. absurd (omega arith))
picks HalfExpand Equal odd unit q r n e p l h s = upper_nearest unit q r n (λ other. other ≤ q * unit + unit) e l (omega arith) (λ t. omega arith)
picks HalfExpand Greater odd unit q r n e p l h s = upper_nearest unit q r n (λ other. other ≤ q * unit + unit) e l (omega arith) (λ t. omega arith)
picks HalfTrunc Less odd unit q r n e p l h s = lower_nearest unit q r n (λ other. q * unit ≤ other) e p (omega arith) (λ t. omega arith)
picks HalfTrunc Equal odd unit q r n e p l h s = lower_nearest unit q r n (λ other. q * unit ≤ other) e p (omega arith) (λ t. omega arith)
picks HalfTrunc Greater odd unit q r n e p l h s = upper_nearest unit q r n (λ other. q * unit + unit ≤ other) e l (omega arith) (λ t. absurd (omega arith))
picks HalfEven Less odd unit q r n e p l h s = lower_nearest unit q r n (λ _. IsMultiple (2 * unit) (q * unit)) e p (omega arith) (λ t. absurd (omega arith))
picks HalfEven Equal true unit q r n e p l h s = upper_nearest unit q r n (λ _. IsMultiple (2 * unit) (q * unit + unit)) e l (omega arith) (λ t. odd_count q unit s)
picks HalfEven Equal false unit q r n e p l h s = lower_nearest unit q r n (λ _. IsMultiple (2 * unit) (q * unit)) e p (omega arith) (λ t. even_count q unit s)
picks HalfEven Greater odd unit q r n e p l h s = upper_nearest unit q r n (λ _. IsMultiple (2 * unit) (q * unit + unit)) e l (omega arith) (λ t. absurd (omega arith))

exact_nearest : (unit n : ℕ) (takes : ℕ → Type 0) → IsMultiple unit n → IsNearest unit n n takes
exact_nearest unit n takes m = record {
  multiple = m;
  nearest = λ other k. omega arith;
  tied = λ other k ne d. absurd (ne (omega arith));
}

-- a multiple is itself what every mode names
pub exact : (mode : UnsignedRoundingMode) (unit n : ℕ) → IsMultiple unit n → IsRounded mode unit n n
exact Expand unit n m = record { multiple = m; over = omega arith; least = λ other k h. h }
exact Trunc unit n m = record { multiple = m; under = omega arith; greatest = λ other k h. h }
exact HalfExpand unit n m = exact_nearest unit n (λ other. other ≤ n) m
exact HalfTrunc unit n m = exact_nearest unit n (λ other. n ≤ other) m
exact HalfEven unit n m = exact_nearest unit n (λ _. IsMultiple (2 * unit) n) m

-- what every mode names is a multiple
pub rounded_multiple : (mode : UnsignedRoundingMode) (unit n m : ℕ) → IsRounded mode unit n m → IsMultiple unit m
rounded_multiple Expand unit n m h = h.multiple
rounded_multiple Trunc unit n m h = h.multiple
rounded_multiple HalfExpand unit n m h = h.multiple
rounded_multiple HalfTrunc unit n m h = h.multiple
rounded_multiple HalfEven unit n m h = h.multiple
