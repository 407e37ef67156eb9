-- The answer of the answerer of `run_with` rows: the line in upper case, with `?` for each byte above ASCII.
-- Defined here.
-- Cited by `Shouter` only.
use Rattle.std.specs.Prelude.{ℕ, ◌+◌, min, nat_lt, List, length, map, if◌then◌else◌}
use Rattle.std.specs.Char.{to_ascii_uppercase}
use Rattle.locale_numbers_lines.specs.Run.{most}

-- a byte as it is answered
abbrev pub shouted : ℕ → ℕ
shouted byte = if nat_lt byte 128 then to_ascii_uppercase byte else 63

-- a line as it is answered
abbrev pub shout : List ℕ → List ℕ
shout line = map shouted line

-- how many answers it will have given after these lines too
abbrev pub answers_after : ℕ → List (List ℕ) → ℕ
answers_after given lines = min (given + length lines) most
