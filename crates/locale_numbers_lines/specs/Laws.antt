-- What the definition of lines means, said without it, and how outputs join.
-- Defined in docs/requests.md, "Lines".
-- Cited by the laws of `laws.rt`.
use Rattle.std.specs.Prelude.{ℕ, ◌≡◌, List, ◌++◌}
use Rattle.locale_numbers_lines.specs.Lines.{Splits, lines_of, whole_lines, last_line, ended, output_of}

-- bytes that are some lines, each with its feed, and a rest with none, have these lines, and the rest where it is not empty
abbrev pub LinesAreThePieces : Type 0
LinesAreThePieces = (bytes : List ℕ) (lines : List (List ℕ)) (rest : List ℕ) → Splits bytes lines rest → lines_of bytes ≡ lines ++ last_line rest

-- and the whole ones are those that a feed ends
abbrev pub WholeLinesAreThePieces : Type 0
WholeLinesAreThePieces = (bytes : List ℕ) (lines : List (List ℕ)) (rest : List ℕ) → Splits bytes lines rest → whole_lines bytes ≡ lines

-- each byte list is cut so
abbrev pub EachInputSplits : Type 0
EachInputSplits = (bytes : List ℕ) → (lines : List (List ℕ)) × (rest : List ℕ) × Splits bytes lines rest

-- the output to two inputs one after the other, of which the first ends with a line feed, is that to the one and then that to the other
abbrev pub OutputsJoin : Type 0
OutputsJoin = (answer : List ℕ → List ℕ) (first second : List ℕ) → output_of answer (ended first ++ second) ≡ output_of answer (ended first) ++ output_of answer second
