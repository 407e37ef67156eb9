-- How many marks of a kind a text begins with, and how many it is.
-- ICU's number skeletons; docs/skeletons.md, "Words".
-- Cited by the calls that read skeletons, through Marks.antt and ExponentWords.antt.
use Rattle.std.specs.Prelude.{ℕ, ◌+◌, ◌==◌, nat_lt, cond, if◌then◌else◌, List, [], ◌∷◌, length, Option, Some, None}

-- how many marks of a kind a text begins with
abbrev pub leading : ℕ → List ℕ → ℕ
leading mark [] = 0
leading mark (c ∷ cs) = cond (c == mark) (1 + leading mark cs) 0

-- how many there are in a text of marks of one kind alone, one at least and a hundred at most
abbrev pub marks_alone : ℕ → List ℕ → Option ℕ
marks_alone mark [] = None
marks_alone mark (c ∷ cs) =
    if nat_lt 100 (length (c ∷ cs)) then None
    else if nat_lt (leading mark (c ∷ cs)) (length (c ∷ cs)) then None
    else Some (length (c ∷ cs))
