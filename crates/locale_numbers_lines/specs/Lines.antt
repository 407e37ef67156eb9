-- The lines of a byte list: its pieces ended by line feeds, and what is after the last feed where that is not empty.
-- Defined in docs/requests.md, "Lines".
-- Cited by `run_with`, through Run.antt, and by the laws of `laws.rt`.
use Rattle.std.specs.Prelude.{ℕ, ◌==◌, ◌≡◌, false, List, [], ◌∷◌, ◌++◌, if◌then◌else◌}
use Rattle.std.specs.List.{flat_map, onto_first}

-- the code of a line feed
abbrev pub line_feed : ℕ
line_feed = 10

-- the lines of these bytes; a last one needs no line feed
abbrev pub lines_of : List ℕ → List (List ℕ)
lines_of [] = []
lines_of (byte ∷ bytes) = if byte == line_feed then [] ∷ lines_of bytes else onto_first byte (lines_of bytes)

-- a byte at the front of the first line, where there is one
abbrev pub onto_whole : ℕ → List (List ℕ) → List (List ℕ)
onto_whole byte [] = []
onto_whole byte (line ∷ lines) = (byte ∷ line) ∷ lines

-- the lines that a line feed ends
abbrev pub whole_lines : List ℕ → List (List ℕ)
whole_lines [] = []
whole_lines (byte ∷ bytes) = if byte == line_feed then [] ∷ whole_lines bytes else onto_whole byte (whole_lines bytes)

-- a line, or an answer, with the line feed that ends it
abbrev pub ended : List ℕ → List ℕ
ended line = line ++ line_feed ∷ []

-- no byte is a line feed
abbrev pub HasNoFeed : List ℕ → Type 0
HasNoFeed [] = Unit {0}
HasNoFeed (byte ∷ bytes) = ((byte == line_feed) ≡ false) × HasNoFeed bytes

-- none of the pieces has a line feed within
abbrev pub AreLines : List (List ℕ) → Type 0
AreLines [] = Unit {0}
AreLines (line ∷ lines) = HasNoFeed line × AreLines lines

-- the bytes are these lines, each with its line feed, and then the rest
pub record Splits (bytes : List ℕ) (lines : List (List ℕ)) (rest : List ℕ) : Type 0 where
  pub whole : bytes ≡ flat_map ended lines ++ rest
  pub each : AreLines lines
  pub cut : HasNoFeed rest

-- the line that is after the last line feed, where any byte does
abbrev pub last_line : List ℕ → List (List ℕ)
last_line [] = []
last_line (byte ∷ bytes) = (byte ∷ bytes) ∷ []

module _ (answer : List ℕ → List ℕ) where
  -- the answers to these lines in order, each with a line feed
  abbrev pub answers_to : List (List ℕ) → List ℕ
  answers_to lines = flat_map (λ line. ended (answer line)) lines

  -- the output to an input: the answers to its lines
  abbrev pub output_of : List ℕ → List ℕ
  output_of input = answers_to (lines_of input)
