-- The answer of a book to a line: what its task answers by what is found for its format, or the first word that refuses it.
-- Defined in docs/requests.md, "Answer line".
-- Cited by `answer` and by `run`.
use Rattle.std.specs.Prelude.{ℕ, List, Option, Some, None}
use Rattle.icu_locale_core.specs.TagPreferences.{Preferences}
use Rattle.locale_numbers_answers.specs.Answers.{answer_by}
pub use Rattle.locale_numbers_answers.specs.AnswerLine.{refused, written}
use Rattle.locale_numbers_book.specs.Book.{BookTables}
pub use Rattle.locale_numbers_book.specs.FoundFormats.{found_for, second_for}
pub use Rattle.locale_numbers_book.specs.FoundRules.{plural_rules_for}
use Rattle.locale_numbers_book.specs.Wanted.{wanted_of}
use Rattle.locale_numbers_requests.specs.Request.{Asked, request_of}
use Rattle.locale_numbers_requests.specs.declared.Refusal.TheVariants as refusal

-- the answer to what preferences and a request ask for
abbrev pub answer_in : BookTables → Preferences → Asked → List ℕ
answer_in book preferences asked =
    answer_by asked.task asked.format (found_for asked.format.shape book preferences) (second_for asked.format.shape book preferences)
    (λ rule_type. plural_rules_for rule_type book preferences) asked.text

-- the answer by what the tag prefers, where it is a tag
abbrev pub answer_tagged : BookTables → Option Preferences → Asked → List ℕ
answer_tagged book None asked = refused refusal.Tag
answer_tagged book (Some preferences) asked = answer_in book preferences asked

-- the answer to a request, or to a line that is not one
abbrev pub answer_asked : BookTables → Option Asked → List ℕ
answer_asked book None = refused refusal.Shape
answer_asked book (Some asked) = answer_tagged book (wanted_of asked.tag) asked

-- the answer to a line, without its line feed
abbrev pub answer_of : BookTables → List ℕ → List ℕ
answer_of book line = answer_asked book (request_of line)
