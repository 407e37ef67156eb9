-- A line of the six forms is answered as it was, and one of another form was refused for its shape: `specs/OldLines.antt`.
use Rattle.std.proofs.Common.{◌≡◌, ℕ, Bool, true, false, ◌||◌, List, Option, None, Some, refl, sym, ap, ◌∙◌, true≢false}
use Rattle.icu_locale_core.specs.TagPreferences.{Preferences}
use Rattle.locale_numbers_book.specs.Book.{BookTables}
use Rattle.locale_numbers_book.specs.Wanted.{wanted_of}
use Rattle.locale_numbers_requests.specs.OldRequests.{OldRequestsStay, StaysRequest, same, none, added, is_added, is_added_shape, is_added_task, old_request_of, trims}
use Rattle.locale_numbers_requests.specs.Request.{Asked, request_of}
use Rattle.locale_numbers_requests.specs.declared.Task.{Task}
use Rattle.locale_numbers_requests.specs.declared.Task.TheVariants.{Write, WriteExact, Read, ReadLenient, Category, RangeCategory}
use Rattle.locale_numbers.specs.Answer.{answer_asked, answer_in, answer_tagged}
use Rattle.locale_numbers.specs.OldLines.{AsksAdded, OldLinesStay, StaysAnswered, old_answer_asked, old_answer_in, old_answer_tagged}

-- the request that does a task in place of its own
abbrev by_task : Task → Asked → Asked
by_task task asked = record { tag = asked.tag; task = task; format = asked.format; text = asked.text }

or_true : (b : Bool) → (b || true) ≡ true
or_true true = refl
or_true false = refl

-- a task that was added is one
was_added : (task : Task) (asked : Asked) → is_added_task task asked.format.shape.unit ≡ true → is_added (by_task task asked) ≡ false → ⊥
was_added task asked new old =
    let trimmed = trims asked.format.options.leading_zeros asked.format.options.zeros in
    let or_new : (trimmed || is_added_task task asked.format.shape.unit) ≡ true = ap (λ (b : Bool). trimmed || b) new ∙ or_true trimmed in
    let adds : is_added (by_task task asked) ≡ true =
    ap (λ (b : Bool). is_added_shape asked.format.shape || b) or_new ∙ or_true (is_added_shape asked.format.shape) in
    true≢false (sym adds ∙ old)

in_task : (task : Task) (book : BookTables) (preferences : Preferences) (asked : Asked) → is_added (by_task task asked) ≡ false
    → answer_in book preferences (by_task task asked) ≡ old_answer_in task book preferences asked
in_task Write book preferences asked old = refl
in_task WriteExact book preferences asked old = refl
in_task Read book preferences asked old = refl
in_task ReadLenient book preferences asked old = absurd (was_added ReadLenient asked refl old)
in_task (Category rule_type) book preferences asked old = absurd (was_added (Category rule_type) asked refl old)
in_task RangeCategory book preferences asked old = absurd (was_added RangeCategory asked refl old)

tagged : (book : BookTables) (wanted : Option Preferences) (asked : Asked) → is_added asked ≡ false → answer_tagged book wanted asked ≡ old_answer_tagged book wanted asked
tagged book None asked old = refl
tagged book (Some preferences) asked old = in_task asked.task book preferences asked old

not_added : (line : List ℕ) (asked : Asked) → is_added asked ≡ false → request_of line ≡ Some asked → AsksAdded line → ⊥
not_added line asked old is adds =
    let one : asked ≡ adds.asked = cc in
    true≢false (sym adds.form ∙ ap is_added (sym one) ∙ old)

by_request : (book : BookTables) (line : List ℕ) → StaysRequest (request_of line) (old_request_of line) → StaysAnswered book line
by_request book line (same asked old is was) = record {
  added = λ adds. absurd (not_added line asked old is adds);
  old = λ _. ap (answer_asked book) is ∙ tagged book (wanted_of asked.tag) asked old ∙ ap (old_answer_asked book) (sym was);
}
by_request book line (none is was) = record {
  added = λ adds. ap (old_answer_asked book) was;
  old = λ _. ap (answer_asked book) is ∙ ap (old_answer_asked book) (sym was);
}
by_request book line (added asked new is was) = record {
  added = λ adds. ap (old_answer_asked book) was;
  old = λ not. absurd (not (record { asked = asked; is = is; form = new }));
}

pub stay : OldRequestsStay → OldLinesStay
stay requests book line = by_request book line (requests line)
