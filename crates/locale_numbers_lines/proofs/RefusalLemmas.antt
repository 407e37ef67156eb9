-- What a run leaves at a refusal, by the step that was refused.
use Rattle.std.proofs.Common.{◌≡◌, ℕ, List, [], ◌++◌, Option}
use Rattle.std.specs.Io.KnownBytes.{Consumes, Keeps, IsAtEnd}
use Rattle.locale_numbers_lines.specs.declared.run_error.RunError.{RunError}
use Rattle.locale_numbers_lines.specs.declared.run_error.RunError.TheVariants.{Read, Write, Memory}
use Rattle.locale_numbers_lines.specs.Lines.{answers_to, last_line}
use Rattle.locale_numbers_lines.specs.Outcomes.{MatchRun}
use Rattle.locale_numbers_lines.specs.Run.{WritesFront, WritesTold, WritesPart, WritesFirst}
use Rattle.locale_numbers_lines.specs.Progress.{Progress, Answered, AnsweredPart}
use Rattle.locale_numbers_lines.proofs.OutcomeLemmas.{told_answered, told_part, part_fed, first_fed, part_finished, first_finished}

module _ (answer answer' : List ℕ → List ℕ) (told held : List ℕ) (before between after : Option (List ℕ)) (old new : ℕ) (over next : List (List ℕ) → ℕ) (had has : Option (List ℕ)) where
  -- a piece was not fed to its end
  pub feed_refused : (piece : List ℕ) (refusal : RunError) (read : Type 0) → Progress answer told held [] [] before between old new over next → answer' ≡ answer → Consumes had has (told ++ piece)
      → MatchRun refusal ⊥ (AnsweredPart answer' (held ++ piece) between after) (Answered answer' (held ++ piece) [] between after)
      → MatchRun refusal read (WritesPart answer had before after) (WritesFirst answer had before after)
  feed_refused piece Read read came same gave refused = absurd refused
  feed_refused piece Write read came same gave refused = part_fed answer answer' told held piece before between after old new over next had has came same refused gave
  feed_refused piece Memory read came same gave refused = first_fed answer answer' told held piece before between after old new over next had has came same refused gave

  -- the last line was not answered
  pub finish_refused : (refusal : RunError) (read : Type 0) → Progress answer told held [] [] before between old new over next → answer' ≡ answer → Consumes had has told → IsAtEnd has
      → MatchRun refusal ⊥ (WritesFront (answers_to answer' (last_line held)) between after) (Keeps between after)
      → MatchRun refusal read (WritesPart answer had before after) (WritesFirst answer had before after)
  finish_refused Read read came same gave end refused = absurd refused
  finish_refused Write read came same gave end refused = part_finished answer answer' told held before between after old new over next had has came same gave end refused
  finish_refused Memory read came same gave end refused = first_finished answer told held before between after old new over next had has came gave refused

-- no more was read
pub stop_refused : (answer : List ℕ → List ℕ) (told held : List ℕ) (before between after : Option (List ℕ)) (old new : ℕ) (over next : List (List ℕ) → ℕ) (had has : Option (List ℕ)) (refusal : RunError) (memory : Type 0)
    → Progress answer told held [] [] before between old new over next → Consumes had has told → MatchRun refusal (Keeps between after) (Keeps between after) ⊥
    → MatchRun refusal (WritesTold answer had has before after) (WritesPart answer had before after) memory
stop_refused answer told held before between after old new over next had has Read memory came gave kept = told_answered answer told held before between after old new over next had has came gave kept
stop_refused answer told held before between after old new over next had has Write memory came gave kept = told_part answer told held before between after old new over next had has came gave kept
stop_refused answer told held before between after old new over next had has Memory memory came gave kept = absurd kept
