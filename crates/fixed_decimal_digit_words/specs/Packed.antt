-- How digits lie in bytes: two to a byte, the higher one in the upper half.
-- Defined in docs/numbers.md, "The number".
-- Cited by the calls on blocks, by the view and the invariant of `Digits`, and by no public clause above this crate.
use Rattle.std.specs.Prelude.{◌≡◌, ℕ, ◌+◌, ◌*◌, ◌/◌, ◌%◌, List, [], ◌∷◌, length, take, slice_index}
use Rattle.std.specs.Int.Digits.{AllBelowBase}

-- the bytes of digits: 0 follows an odd one in the last byte
abbrev pub packed : List ℕ → List ℕ
packed [] = []
packed (d ∷ []) = (d * 16) ∷ []
packed (d ∷ e ∷ ds) = (d * 16 + e) ∷ packed ds

-- the two halves of each byte, the upper one first
abbrev pub halves : List ℕ → List ℕ
halves [] = []
halves (b ∷ bs) = (b / 16) ∷ (b % 16) ∷ halves bs

abbrev pub digits_in : List ℕ → ℕ → List ℕ
digits_in bytes count = take count (halves bytes)

-- these bytes hold the given number of digits, and nothing else
pub record IsPacked (bytes : List ℕ) (count : ℕ) : Type 0 where
  pub tens : AllBelowBase 10 (digits_in bytes count)
  pub all : length (digits_in bytes count) ≡ count
  pub packed_are : bytes ≡ packed (digits_in bytes count)

-- each half moved up by one, so that the first is gone: a 0 comes in after the last
abbrev pub shifted : List ℕ → List ℕ
shifted [] = []
shifted (b ∷ bs) = (b % 16 * 16 + slice_index bs 0 / 16) ∷ shifted bs
