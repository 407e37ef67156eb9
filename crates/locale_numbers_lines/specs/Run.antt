-- What a run has written and counted at each of its outcomes, where reader and writer tell their bytes.
-- Defined in docs/requests.md, "What a run leaves".
-- Cited by `run_with`; `had` and `has` are the reader's bytes before and after, `held` and `holds` the writer's.
use Rattle.std.specs.Prelude.{ℕ, ◌≡◌, ◌-◌, ◌^◌, min, List, length, take, Option, IfSome}
use Rattle.std.specs.Io.KnownBytes.{Appends, Consumes}
use Rattle.locale_numbers_lines.specs.Lines.{lines_of, whole_lines, answers_to, output_of}

-- the greatest count, at which a count stops
abbrev pub most : ℕ
most = 2 ^ 64 - 1

-- a front of these bytes was written
pub record WritesFront (bytes : List ℕ) (held holds : Option (List ℕ)) : Type 0 where
  pub count : ℕ
  pub wrote : Appends held holds (take count bytes)

module _ (answer : List ℕ → List ℕ) where
  -- each line of the input was answered, in order
  abbrev pub WritesAll : Option (List ℕ) → Option (List ℕ) → Option (List ℕ) → Type 0
  WritesAll had held holds = IfSome had (λ input. Appends held holds (output_of answer input))

  -- just the whole lines that the reader gave were answered
  pub record WritesTold (had has held holds : Option (List ℕ)) : Type 0 where
    pub told : List ℕ
    pub gave : Consumes had has told
    pub wrote : Appends held holds (answers_to answer (whole_lines told))

  -- a front of the output was written, which may end within an answer
  abbrev pub WritesPart : Option (List ℕ) → Option (List ℕ) → Option (List ℕ) → Type 0
  WritesPart had held holds = IfSome had (λ input. WritesFront (output_of answer input) held holds)

  -- the first lines of an input were answered, each whole
  pub record AnswersFirst (input : List ℕ) (held holds : Option (List ℕ)) : Type 0 where
    pub count : ℕ
    pub wrote : Appends held holds (answers_to answer (take count (lines_of input)))

  -- some first lines were answered, each whole
  abbrev pub WritesFirst : Option (List ℕ) → Option (List ℕ) → Option (List ℕ) → Type 0
  WritesFirst had held holds = IfSome had (λ input. AnswersFirst input held holds)

-- the count is that of the input's lines
abbrev pub CountsLines : Option (List ℕ) → ℕ → Type 0
CountsLines had count = IfSome had (λ input. count ≡ min (length (lines_of input)) most)

-- the count is what the answers to the input's lines make
abbrev pub CountsMade : (List (List ℕ) → ℕ) → Option (List ℕ) → ℕ → Type 0
CountsMade over had count = IfSome had (λ input. count ≡ over (lines_of input))

-- a reader, and those that come of it by reads, may be read where the lines that it has told whole are answered on a writer that comes of this one:
-- `remaining` has the bytes that a reader will give, `contents` those that a writer holds
abbrev pub MayReadOnceAnswered : {R W : Type 0} → (R → Type 0) → (R → Option (List ℕ)) → (W → Option (List ℕ)) → (List ℕ → List ℕ) → R → W → Type 0
MayReadOnceAnswered {R} {W} may_read remaining contents answer first_reader first_writer =
    (reader : R) (writer : W) (told : List ℕ) → Consumes (remaining first_reader) (remaining reader) told
    → Appends (contents first_writer) (contents writer) (answers_to answer (whole_lines told)) → may_read reader
