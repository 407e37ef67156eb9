-- What a call that answers request lines over buffers leaves in them: which lines were answered, their answers, and why the next one was not.
-- Defined here, over the lines of docs/requests.md, "Lines".
-- Cited by `answer_lines`.
use Rattle.std.specs.Prelude.{◌≡◌, ◌≢◌, ℕ, ◌≤◌, List, ◌++◌, length, take, drop, Result, Err, IsOk, IfErr, IsErrOf}
use Rattle.std.specs.List.{flat_map}
use Rattle.locale_numbers_lines.specs.Lines.{AreLines, HasNoFeed, answers_to, ended}
use Rattle.locale_numbers_lines.specs.Progress.{FirstLine}
use Rattle.legumeyet_c_values.specs.Putting.{IsCut}
use Rattle.legumeyet_c_values.specs.declared.call_error.CallError.{CallError}
use Rattle.legumeyet_c_values.specs.declared.call_error.CallError.TheVariants.{Closed, Memory, TooSmall}

-- what a call that answers lines writes to
pub record Buffers : Type 0 where
  pub bytes : List ℕ
  pub read : ℕ
  pub written : ℕ
  pub needs : ℕ

abbrev pub buffers : List ℕ → ℕ → ℕ → ℕ → Buffers
buffers bytes read written needs = record { bytes = bytes; read = read; written = written; needs = needs }

-- what is after the answers is as it was, and no room is asked for
pub record IsQuiet (before after : Buffers) : Type 0 where
  pub rest : drop after.written after.bytes ≡ drop after.written before.bytes
  pub none : after.needs ≡ 0

-- a line feed ends a line of these bytes
pub record HasLine (bytes : List ℕ) : Type 0 where
  pub line : List ℕ
  pub rest : List ℕ
  pub first : FirstLine bytes line rest

-- nothing was read or written
pub record IsUnanswered (before after : Buffers) (outcome : Result (Unit {0}) CallError) : Type 0 where
  pub cause : outcome ≡ Err Closed
  pub untouched : after ≡ record before { read = 0; written = 0; needs = 0 }

module _ (answer : List ℕ → List ℕ) where
  -- the answer to the first line is longer than what is left, which is its first bytes, and its length is told
  pub record LacksRoomFor (left : List ℕ) (before after : Buffers) : Type 0 where
    pub line : List ℕ
    pub rest : List ℕ
    pub first : FirstLine left line rest
    pub cut : IsCut (λ text. text ≡ ended (answer line)) (drop after.written before.bytes) (drop after.written after.bytes) after.needs

  -- the first lines have their answers in the bytes, each ended by a line feed; what is left has no whole line, or its first one has no answer there
  pub record IsAnswered (lines : List ℕ) (before after : Buffers) (outcome : Result (Unit {0}) CallError) : Type 0 where
    pub answered : List (List ℕ)
    pub left : List ℕ
    pub all : lines ≡ flat_map ended answered ++ left
    pub each : AreLines answered
    pub read : after.read ≡ length (flat_map ended answered)
    pub written : after.written ≡ length (answers_to answer answered)
    pub bytes : take after.written after.bytes ≡ answers_to answer answered
    pub done : IsOk outcome → HasNoFeed left × IsQuiet before after
    pub cut : IsErrOf outcome TooSmall → LacksRoomFor left before after
    pub refused : IfErr outcome (λ error. error ≢ TooSmall → (error ≡ Memory) × HasLine left × IsQuiet before after)

  -- how far the lines are answered: this is left
  pub record Answered (lines left : List ℕ) (before after : Buffers) : Type 0 where
    pub answered : List (List ℕ)
    pub all : lines ≡ flat_map ended answered ++ left
    pub each : AreLines answered
    pub read : after.read ≡ length (flat_map ended answered)
    pub written : after.written ≡ length (answers_to answer answered)
    pub bytes : after.bytes ≡ answers_to answer answered ++ drop after.written before.bytes
    pub none : after.needs ≡ 0
    pub fits : after.written ≤ length before.bytes
