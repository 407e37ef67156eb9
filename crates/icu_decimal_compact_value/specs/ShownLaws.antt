-- Laws of the shown value: one is shown, by one rule; order is kept; nothing is far off.
-- Defined in docs/compact-text.md, "Laws".
-- Cited by the functions of the module `laws`. They hold at every place of the ones and of every function from magnitudes to exponents.
use Rattle.std.specs.Prelude.{◌≡◌, ℕ, suc, ◌*◌, ◌^◌, ◌<◌, ◌≤◌, ◌↔◌}
use Rattle.fixed_decimal.specs.Rounding.{IsMultiple, IsNearest, distance}
use Rattle.icu_decimal_compact_value.specs.ShownValue.{IsShowable, IsShown, even_count, shown_value, unit}
use Rattle.icu_decimal_compact_value.specs.Steps.{IsNines}

-- the rule by which the value is computed gives the nearest showable one
abbrev pub RuleShowsNearest : Type 0
RuleShowsNearest = (ones : ℕ) (e : ℕ → ℕ) (n : ℕ) → IsShown ones e n (shown_value ones e n)

-- a number shows one value
abbrev pub OneIsShown : Type 0
OneIsShown = (ones : ℕ) (e : ℕ → ℕ) (n v w : ℕ) → IsShown ones e n v → IsShown ones e n w → v ≡ w

-- the nearest multiple of the unit, a tie to the even one, is the shown value, and no other is
abbrev pub RoundedIsShown : Type 0
RoundedIsShown = (ones : ℕ) (e : ℕ → ℕ) (n v : ℕ) → IsNearest (unit ones e n) n v (λ _. IsMultiple (2 * unit ones e n) v) ↔ IsShown ones e n v

-- of two numbers the smaller never shows a larger value
abbrev pub ShownKeepsOrder : Type 0
ShownKeepsOrder = (ones : ℕ) (e : ℕ → ℕ) (n m v w : ℕ) → IsShown ones e n v → IsShown ones e m w → n < m → v ≤ w

-- a number that can be shown as it is shows itself
abbrev pub ShowableShowsItself : Type 0
ShowableShowsItself = (ones : ℕ) (e : ℕ → ℕ) (n v : ℕ) → IsShowable ones e n → IsShown ones e n v → v ≡ n

-- a shown value is off by at most a twentieth of its number
abbrev pub ShownIsNear : Type 0
ShownIsNear = (ones : ℕ) (e : ℕ → ℕ) (n v : ℕ) → IsShown ones e n v → 20 * distance n v ≤ n

-- zero is shown for zero alone
abbrev pub ZeroShowsZero : Type 0
ZeroShowsZero = (ones : ℕ) (e : ℕ → ℕ) (n : ℕ) → IsShown ones e n 0 → n ≡ 0

-- a number is rounded up to the next power of ten exactly where its digits down to the unit are all 9 and the next one is at least 5
abbrev pub CarriedAtNines : Type 0
CarriedAtNines = (p k n : ℕ) → 1 ≤ p → p ≤ k → n < 10 ^ suc k → (even_count (10 ^ p) n * 10 ^ p ≡ 10 ^ suc k) ↔ IsNines p k n
