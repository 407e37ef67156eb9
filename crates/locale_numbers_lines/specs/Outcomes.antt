-- The numbers of a run's refusals, and a fact for each of them.
-- Defined in docs/requests.md, "What a run leaves".
-- Cited by `RunError::number` and `run_with`, and by the private functions that a run is made of.
use Rattle.std.specs.Prelude.{ℕ, Bool, true, false, Result, Ok, Err}
use Rattle.locale_numbers_lines.specs.declared.run_error.RunError.{RunError}
use Rattle.locale_numbers_lines.specs.declared.run_error.RunError.TheVariants.{Read, Write, Memory}

-- Read is 1, Write 2, Memory 3
abbrev pub run_error_number : RunError → ℕ
run_error_number Read = 1
run_error_number Write = 2
run_error_number Memory = 3

-- the fact for the refusal that it is
abbrev pub MatchRun : RunError → Type 0 → Type 0 → Type 0 → Type 0
MatchRun Read read write memory = read
MatchRun Write read write memory = write
MatchRun Memory read write memory = memory

-- whether it is for the writer's sake
abbrev pub is_write : RunError → Bool
is_write Read = false
is_write Write = true
is_write Memory = false

-- whether this ended for the writer's sake
abbrev pub ends_in_write : {T : Type 0} → Result T RunError → Bool
ends_in_write (Ok done) = false
ends_in_write (Err refusal) = is_write refusal
