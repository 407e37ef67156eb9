-- A text laid over bytes from a place on, as far as they reach.
-- Defined in docs/annotated-text.md, "Bytes of the caller's".
-- Cited by `BytesSink`, and by `lay` after it.
use Rattle.std.specs.Prelude.{ℕ, zero, suc, List, [], ◌∷◌}

-- the bytes with a text over them from the n-th on; none is added after their end
abbrev pub laid_from : ℕ → List ℕ → List ℕ → List ℕ
laid_from n text [] = []
laid_from (suc n) text (b ∷ out) = b ∷ laid_from n text out
laid_from zero [] (b ∷ out) = b ∷ out
laid_from zero (t ∷ text) (b ∷ out) = t ∷ laid_from zero text out
