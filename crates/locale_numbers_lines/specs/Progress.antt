-- How far a run has come: which lines of the bytes so far were answered, and which answers are still to be written.
-- Defined in docs/requests.md, "What a run leaves".
-- Cited by the private functions that a run is made of, and by no public one.
use Rattle.std.specs.Prelude.{ℕ, ◌≡◌, ◌+◌, min, List, [], ◌∷◌, ◌++◌, length, take, Option, Result, MatchResult}
use Rattle.std.specs.List.{flat_map}
use Rattle.std.specs.Io.KnownBytes.{Appends}
use Rattle.locale_numbers_lines.specs.declared.run_error.RunError.{RunError}
use Rattle.locale_numbers_lines.specs.Lines.{line_feed, ended, HasNoFeed, AreLines, last_line, answers_to}
use Rattle.locale_numbers_lines.specs.Outcomes.{MatchRun}
use Rattle.locale_numbers_lines.specs.Run.{most, WritesAll, CountsLines, CountsMade}

-- the bytes are a line, its feed and what follows
pub record FirstLine (bytes line rest : List ℕ) : Type 0 where
  pub whole : bytes ≡ line ++ line_feed ∷ rest
  pub cut : HasNoFeed line

-- a front of the bytes that were there was written, and the rest is there now
pub record Moves (had has : List ℕ) (before after : Option (List ℕ)) : Type 0 where
  pub sent : List ℕ
  pub whole : had ≡ sent ++ has
  pub wrote : Appends before after sent

-- these lines were counted, and answered by the one whose count of made things looks ahead by `over`, and now by `next`
pub record Counts (lines : List (List ℕ)) (old new : ℕ) (over next : List (List ℕ) → ℕ) : Type 0 where
  pub counted : new ≡ min (old + length lines) most
  pub made : (more : List (List ℕ)) → over (lines ++ more) ≡ next more

module _ (answer : List ℕ → List ℕ) where
  -- of these bytes the lines before `held` were answered and counted, `held` is the front of a line, and `left` was not looked at;
  -- of the answers all were written but the ready ones
  pub record Progress (bytes held left ready : List ℕ) (before after : Option (List ℕ)) (old new : ℕ) (over next : List (List ℕ) → ℕ) : Type 0 where
    pub lines : List (List ℕ)
    pub whole : bytes ≡ flat_map ended lines ++ (held ++ left)
    pub each : AreLines lines
    pub cut : HasNoFeed held
    pub sent : List ℕ
    pub wrote : Appends before after sent
    pub kept : sent ++ ready ≡ answers_to answer lines
    pub counts : Counts lines old new over next

  -- some first lines of these bytes were answered, and of the answers all were written but the ready ones
  pub record Answered (bytes ready : List ℕ) (before after : Option (List ℕ)) : Type 0 where
    pub lines : List (List ℕ)
    pub rest : List ℕ
    pub whole : bytes ≡ flat_map ended lines ++ rest
    pub each : AreLines lines
    pub sent : List ℕ
    pub wrote : Appends before after sent
    pub kept : sent ++ ready ≡ answers_to answer lines

  -- some first lines of these bytes were answered, and a front of the answers was written
  pub record AnsweredPart (bytes : List ℕ) (before after : Option (List ℕ)) : Type 0 where
    pub lines : List (List ℕ)
    pub rest : List ℕ
    pub whole : bytes ≡ flat_map ended lines ++ rest
    pub each : AreLines lines
    pub count : ℕ
    pub wrote : Appends before after (take count (answers_to answer lines))

  -- the line after the last feed, where there is one, was answered and counted
  pub record Finishes (held : List ℕ) (before after : Option (List ℕ)) (old new : ℕ) (over next : List (List ℕ) → ℕ) : Type 0 where
    pub wrote : Appends before after (answers_to answer (last_line held))
    pub counts : Counts (last_line held) old new over next

  -- all lines of the input were answered and counted
  pub record AnswersAll (had before after : Option (List ℕ)) (count : ℕ) (over next : List (List ℕ) → ℕ) : Type 0 where
    pub wrote : WritesAll answer had before after
    pub counted : CountsLines had count
    pub made : CountsMade over had (next [])

-- these bytes were fed: their lines were answered, `held` is after the last feed, and `ready` are the answers that are not written yet
abbrev pub Feeds : (List ℕ → List ℕ) → (bytes held ready : List ℕ) → (before after : Option (List ℕ)) → ℕ → (over next : List (List ℕ) → ℕ) → Result ℕ RunError → Type 0
Feeds answer bytes held ready before after old over next result = MatchResult result
    (λ count. Progress answer bytes held [] ready before after old count over next)
    (λ refusal. MatchRun refusal ⊥ (AnsweredPart answer bytes before after) (Answered answer bytes ready before after))
