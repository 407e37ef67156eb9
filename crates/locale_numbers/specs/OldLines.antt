-- What a line was answered before the forms `read-lenient`, `percent`, `currency-EUR`, `plural` and their like, the grouping `on-aligned` and
-- choices of digits were added, and that a line without these has that answer now.
-- Defined in docs/requests.md, "Request line".
-- Cited by `laws::old_lines_stay`.
use Rattle.std.specs.Prelude.{◌≡◌, ℕ, true, List, Option, Some, None}
use Rattle.icu_locale_core.specs.TagPreferences.{Preferences}
use Rattle.locale_numbers_book.specs.Book.{BookTables}
use Rattle.locale_numbers_book.specs.Wanted.{wanted_of}
use Rattle.locale_numbers_answers.specs.Answers.{exact_found, read_found, written_to}
use Rattle.locale_numbers_answers.specs.CompactReading.{compact_reading_of}
use Rattle.locale_numbers_answers.specs.NumberReading.{reading_of}
use Rattle.locale_numbers_requests.specs.OldRequests.{is_added, old_request_of}
use Rattle.locale_numbers_requests.specs.Request.{Asked, request_of}
use Rattle.locale_numbers_requests.specs.declared.Refusal.TheVariants as refusal
use Rattle.locale_numbers_requests.specs.declared.Task.{Task}
use Rattle.locale_numbers_requests.specs.declared.Task.TheVariants.{Write, WriteExact, Read, ReadLenient, Category, RangeCategory}
use Rattle.locale_numbers.specs.Answer.{answer_of, found_for, refused}

-- the answers of the three tasks that there were; another one was none
abbrev pub old_answer_in : Task → BookTables → Preferences → Asked → List ℕ
old_answer_in Write book preferences asked = written_to (found_for asked.format.shape book preferences) asked.format.options (reading_of asked.text)
old_answer_in WriteExact book preferences asked =
    exact_found (found_for asked.format.shape book preferences) asked.format.options.sign (compact_reading_of asked.text)
old_answer_in Read book preferences asked = read_found (found_for asked.format.shape book preferences) asked.format.options.rounding asked.text
old_answer_in ReadLenient book preferences asked = refused refusal.Shape
old_answer_in (Category rule_type) book preferences asked = refused refusal.Shape
old_answer_in RangeCategory book preferences asked = refused refusal.Shape

abbrev pub old_answer_tagged : BookTables → Option Preferences → Asked → List ℕ
old_answer_tagged book None asked = refused refusal.Tag
old_answer_tagged book (Some preferences) asked = old_answer_in asked.task book preferences asked

abbrev pub old_answer_asked : BookTables → Option Asked → List ℕ
old_answer_asked book None = refused refusal.Shape
old_answer_asked book (Some asked) = old_answer_tagged book (wanted_of asked.tag) asked

-- what a line was answered
abbrev pub old_answer_of : BookTables → List ℕ → List ℕ
old_answer_of book line = old_answer_asked book (old_request_of line)

-- a line asks what was added
pub record AsksAdded (line : List ℕ) : Type 0 where
  pub asked : Asked
  pub is : request_of line ≡ Some asked
  pub form : is_added asked ≡ true

-- such a line was refused for its shape, and every other one is answered as it was
pub record StaysAnswered (book : BookTables) (line : List ℕ) : Type 0 where
  pub added : AsksAdded line → old_answer_of book line ≡ refused refusal.Shape
  pub old : ¬ (AsksAdded line) → answer_of book line ≡ old_answer_of book line

abbrev pub OldLinesStay : Type 0
OldLinesStay = (book : BookTables) (line : List ℕ) → StaysAnswered book line
