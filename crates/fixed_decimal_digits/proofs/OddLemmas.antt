-- Multiples of 25 that end in 25 or 75: only these put two digits where none stood.
use Rattle.std.proofs.Common.{◌≡◌, ◌≢◌, ℕ, ◌+◌, ◌-◌, ◌*◌, ◌%◌, ◌<◌, ◌≤◌, ◌∙◌, ⊎_elim, arith, Result, Ok, Err, OnErr}
use Rattle.std.proofs.lemmas.Bool.{cases_lt}
use Rattle.std.proofs.Math.Nat.{eq_of_mul-eq-mul_right}
use Rattle.fixed_decimal_digits.specs.Rounding.{increment_number}
use Rattle.fixed_decimal_digits.specs.declared.modes.RoundingIncrement.{RoundingIncrement}
use Rattle.fixed_decimal_digits.specs.declared.modes.RoundingIncrement.TheVariants.{MultiplesOf1, MultiplesOf2, MultiplesOf5, MultiplesOf25}

regrouped : (k t : ℕ) → k * (2 * (25 * t)) ≡ k * 50 * t
regrouped k t = omega arith

-- two digits of which the lower is not 0 are no multiple of 50
pub odd_pair : (increment : RoundingIncrement) (h pair t k : ℕ) → 0 < t → 0 < pair % 10 → (increment ≢ MultiplesOf25 → ⊥) → (h * 100 + pair) * t ≡ k * (2 * (increment_number increment * t)) → ⊥
odd_pair MultiplesOf1 h pair t k some lower only e = only (λ same. cc)
odd_pair MultiplesOf2 h pair t k some lower only e = only (λ same. cc)
odd_pair MultiplesOf5 h pair t k some lower only e = only (λ same. cc)
odd_pair MultiplesOf25 h pair t k some lower only e =
    let same : h * 100 + pair ≡ k * 50 = eq_of_mul-eq-mul_right t some (h * 100 + pair) (k * 50) (e ∙ regrouped k t) in
    omega (arith, same, lower)

-- where there is no room for what a pair adds, these are two digits, and the last one before stood right above the place
pub two_added : (top place len capacity kept added more : ℕ) → kept ≡ top + 1 - (place + 2) → more ≡ kept + added - len → top < place + len + 1 → len ≤ capacity → 16 ≤ capacity → added ≤ 2
    → (len + more ≤ capacity → ⊥) → 2 ≤ added
two_added top place len capacity kept added more k m deep fits inline most full = ⊎_elim (λ less. absurd (full (omega arith))) (λ two. two) (cases_lt added 2)

pub not_deeper : (top place len capacity kept added more : ℕ) → kept ≡ top + 1 - (place + 2) → more ≡ kept + added - len → len ≤ capacity → 16 ≤ capacity → added ≤ 2
    → (len + more ≤ capacity → ⊥) → top < place + len → ⊥
not_deeper top place len capacity kept added more k m fits inline most full deeper = full (omega arith)

-- what holds anyway holds where memory is refused
pub refused_anyway : {T E P : Type 0} (r : Result T E) → P → OnErr r P
refused_anyway (Ok x) holds = tt
refused_anyway (Err x) holds = holds
