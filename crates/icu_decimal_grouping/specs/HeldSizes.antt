-- The sizes of groups as they are held: the first, a count of middle ones, the last; none where a size is 0.
-- Defined in docs/plain-text.md, "Groups".
-- Cited by the view of `GroupSizes` and by its `chunks`.
use Rattle.std.specs.Prelude.{ℕ, ◌==◌, cond, List, [], ◌∷◌, ◌++◌, replicate}

-- one size, or none where it is 0
abbrev pub size_if : ℕ → List ℕ
size_if n = cond (n == 0) [] (n ∷ [])

abbrev pub sizes_held : ℕ → ℕ → ℕ → ℕ → List ℕ
sizes_held first middles middle last = size_if first ++ (replicate middles middle ++ size_if last)
