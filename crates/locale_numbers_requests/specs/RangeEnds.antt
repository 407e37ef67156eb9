-- The texts of the two ends of a range.
-- Defined in docs/requests.md, "Request line".
-- Cited by `cut_range`, and by `answer` and `run`, through CategoryAnswer.antt of `locale_numbers_answers`.
use Rattle.std.specs.Prelude.{ℕ, Bool, false, ◌&&◌, ◌==◌, if◌then◌else◌, List, [], ◌∷◌, drop, Option, None, Some}

-- the code of a dot
abbrev pub dot : ℕ
dot = 46

-- two dots are at the front
abbrev pub begins_with_dots : List ℕ → Bool
begins_with_dots [] = false
begins_with_dots (c ∷ []) = false
begins_with_dots (c ∷ d ∷ cs) = c == dot && d == dot

-- one byte more before the first end
abbrev pub with_byte : ℕ → Option (List ℕ × List ℕ) → Option (List ℕ × List ℕ)
with_byte c None = None
with_byte c (Some ends) = Some (c ∷ ends.0, ends.1)

-- the texts before the first two dots and after them
abbrev pub range_ends : List ℕ → Option (List ℕ × List ℕ)
range_ends [] = None
range_ends (c ∷ cs) = if begins_with_dots (c ∷ cs) then Some ([], drop 1 cs) else with_byte c (range_ends cs)
