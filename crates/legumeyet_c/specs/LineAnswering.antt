-- What a call that opens answers to lines leaves in its handle, and which lines a call answers, or why it answers none.
-- Defined in include/legumeyet.h, and docs/c-api.md, "Many request lines".
-- Cited by `legumeyet_answers_open` and `legumeyet_answers_answer`.
use Rattle.std.specs.Prelude.{◌≡◌, ℕ, ◌≤◌, Bool, true, false, List, Option, Some, None, Result}
use Rattle.locale_numbers.specs.Answer.{answer_of}
use Rattle.locale_numbers.specs.Book.{BookTables}
use Rattle.legumeyet_c_values.specs.LineBuffers.{Buffers, IsAnswered, IsUnanswered}
use Rattle.legumeyet_c_values.specs.declared.CallError.{CallError}
use Rattle.legumeyet_c_values.specs.declared.CallError.TheVariants.{Memory, Closed, UnknownOption, Unkept}

-- ---- opening

-- the answers are those of a book that is open and kept, with a formatter at least
abbrev pub FindsAnswers : Option BookTables → Bool → ℕ → BookTables → Type 0
FindsAnswers None kept capacity found = ⊥
FindsAnswers (Some book) false capacity found = ⊥
FindsAnswers (Some book) true capacity found = (1 ≤ capacity) × (found ≡ book)

-- a closed book comes first, then one that is not kept, then a capacity of 0
abbrev pub IsAnswersFault : Option BookTables → Bool → ℕ → CallError → Type 0
IsAnswersFault None kept capacity error = error ≡ Closed
IsAnswersFault (Some book) false capacity error = error ≡ Unkept
IsAnswersFault (Some book) true capacity UnknownOption = capacity ≡ 0
IsAnswersFault (Some book) true capacity Memory = 1 ≤ capacity
IsAnswersFault (Some book) true capacity _ = ⊥

-- ---- answering

-- those of an open book; a closed handle answers none
abbrev pub AreAnswered : Option BookTables → List ℕ → Buffers → Buffers → Result (Unit {0}) CallError → Type 0
AreAnswered None lines before after outcome = IsUnanswered before after outcome
AreAnswered (Some book) lines before after outcome = IsAnswered (answer_of book) lines before after outcome
