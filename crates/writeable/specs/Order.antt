-- The order of a text against given bytes, found while the text is written.
-- Defined in docs/annotated-text.md, "Comparing".
-- Cited by `CompareSink` and by `strict_cmp`.
use Rattle.std.specs.Prelude.{◌≡◌, ℕ, List, ◌++◌}
use Rattle.std.specs.Ordering.{nat_cmp, ordering_then}
use Rattle.std.specs.declared.cmp.Ordering.{Ordering}
use Rattle.std.specs.Cmp.Lexicographic.{slice_cmp}

-- the byte order of two texts: the first byte that differs decides, else the shorter text is less
abbrev pub byte_order : List ℕ → List ℕ → Ordering
byte_order = slice_cmp nat_cmp

-- the order of a whole text, where its beginning has the order so_far against the bytes before
-- `rest`, and `more` is what follows
abbrev pub order_given : Ordering → List ℕ → List ℕ → Ordering
order_given so_far rest more = ordering_then so_far (byte_order more rest)

-- the bytes still to compare with, and the order so far
pub record Comparison : Type 0 where
  pub rest : List ℕ
  pub so_far : Ordering

-- t is s after it compared this text
abbrev pub Compares : Comparison → List ℕ → Comparison → Type 0
Compares s text t = (more : List ℕ) → order_given t.so_far t.rest more ≡ order_given s.so_far s.rest (text ++ more)
