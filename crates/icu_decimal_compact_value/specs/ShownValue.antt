-- The value that a compact text shows in place of a number: the nearest showable one.
-- Defined in docs/compact-text.md, "The value shown".
-- Cited by `can_show`, by `show` and by the functions of the module `laws`.
-- A number is a count of units, and place k is the power 10 ^ k; the ones are at the place `ones`.
use Rattle.std.specs.Prelude.{◌≡◌, ◌≢◌, ℕ, zero, suc, ◌+◌, ◌-◌, ◌*◌, ◌/◌, ◌%◌, ◌^◌, ◌≤◌, ◌==◌, true, false, cond, nat_lt, min}
use Rattle.fixed_decimal.specs.Rounding.{IsMultiple, distance}

-- how often n can be divided by ten before it is below ten, in so many turns at most
abbrev pub top_within : ℕ → ℕ → ℕ
top_within zero n = 0
top_within (suc turns) n = elim (nat_lt n 10) as (λ _. ℕ) [ true ↦ 0 | false ↦ suc (top_within turns (n / 10)) ]

-- the place of the first digit of a count
abbrev pub top : ℕ → ℕ
top n = top_within n n

-- the place of the magnitude: that of the first digit, and that of the ones for zero
abbrev pub magnitude : ℕ → ℕ → ℕ
magnitude ones n = cond (n == 0) ones (top n)

-- the lowest place shown of a value of magnitude place k, under the exponent place e k: that one, or the one after the first digit
abbrev pub unit_place : (ℕ → ℕ) → ℕ → ℕ
unit_place e k = min (e k) (k - 1)

-- the unit of a number: what its shown value is counted in
abbrev pub unit : ℕ → (ℕ → ℕ) → ℕ → ℕ
unit ones e n = 10 ^ unit_place e (magnitude ones n)

-- a value can be shown as it is
abbrev pub IsShowable : ℕ → (ℕ → ℕ) → ℕ → Type 0
IsShowable ones e v = IsMultiple (unit ones e v) v

-- v is the showable value that is nearest to n, and of two that are equally near the one with an even count of the unit of n
pub record IsShown (ones : ℕ) (e : ℕ → ℕ) (n v : ℕ) : Type 0 where
  pub showable : IsShowable ones e v
  pub nearest : (w : ℕ) → IsShowable ones e w → distance n v ≤ distance n w
  pub tied : (w : ℕ) → IsShowable ones e w → w ≢ v → distance n w ≡ distance n v → IsMultiple (2 * unit ones e n) v

-- the nearest count of a unit, and of two the even one
abbrev pub even_count : ℕ → ℕ → ℕ
even_count u n = n / u + cond (nat_lt (2 * (n % u)) u) 0 (cond (nat_lt u (2 * (n % u))) 1 (n / u % 2))

-- the number rounded to its unit, half to even: the rule by which the shown value is computed
abbrev pub shown_value : ℕ → (ℕ → ℕ) → ℕ → ℕ
shown_value ones e n = let u = unit ones e n in even_count u n * u
