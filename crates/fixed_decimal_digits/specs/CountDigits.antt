-- The digits of a count by their places.
-- Defined in docs/numbers.md, "The number".
-- Cited by `digit_at`, by the digits shown, and by each definition of the text of a number.
use Rattle.std.specs.Prelude.{ℕ, zero, suc, ◌+◌, ◌/◌, ◌%◌, ◌^◌, List, [], ◌∷◌}

-- the digit of a count at a place
abbrev pub digit : ℕ → ℕ → ℕ
digit count p = count / 10 ^ p % 10

-- the digits of a count at the given number of places from `base` up, the highest first
abbrev pub digits_down : ℕ → ℕ → ℕ → List ℕ
digits_down count base zero = []
digits_down count base (suc k) = digit count (base + k) ∷ digits_down count base k
