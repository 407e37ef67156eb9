-- The lowest bit that is set in a mask of so many lanes.
-- Defined in docs/plain-text.md, "Writing".
-- Cited only by private steps of the writer.
use Rattle.std.specs.Prelude.{ℕ, ◌+◌, ◌-◌, ◌%◌, ◌==◌, nat_le, Bool, cond}
use Rattle.std.specs.Int.Count.{count_trailing_zeros}

-- its place, or the count of the lanes where none is set
abbrev pub first_set : ℕ → ℕ → ℕ
first_set mask lanes = cond (mask == 0) lanes (count_trailing_zeros 64 mask)

-- a byte that is no digit, as a lane tells it
abbrev pub is_other : ℕ → Bool
is_other x = nat_le 10 ((x + (256 - 48)) % 256)
