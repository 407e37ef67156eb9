use Rattle.std.proofs.Common.{◌≡◌, ℕ, Bool, true, false, Option, Some, None, sym, subst}
use Rattle.locale_numbers.specs.Book.{BookTables}
use Rattle.legumeyet_c_values.specs.declared.CallError.{CallError}
use Rattle.legumeyet_c_values.specs.declared.CallError.TheVariants.{Memory}
use Rattle.legumeyet_c.specs.Kinds.{answers_in, book_in, is_kept}
use Rattle.legumeyet_c.specs.LineAnswering.{FindsAnswers, IsAnswersFault}
use Rattle.legumeyet_c.specs.declared.content.Content.{Content}
use Rattle.legumeyet_c.proofs.OpeningLemmas.{opening_by, opening_refused}
use Rattle.legumeyet_c.proofs.line_answers.open_answers.Goals as goal

-- where answers are found, out of memory is a fault
memory_misses : (book : Option BookTables) (kept : Bool) (capacity : ℕ) (found : BookTables) → FindsAnswers book kept capacity found → (error : CallError) → error ≡ Memory → IsAnswersFault book kept capacity error
memory_misses None kept capacity found finds error is = absurd finds
memory_misses (Some book) false capacity found finds error is = absurd finds
memory_misses (Some book) true capacity found finds error is = subst (λ (e : CallError). IsAnswersFault (Some book) true capacity e) (sym is) finds.0

pub returns-in-Ok-clause-told : goal.returns-in-Ok-clause-told
returns-in-Ok-clause-told c =
    let value = c.args.book.now.pointer.value in
    let found = subst (λ (o : Option Content). FindsAnswers (book_in o) (is_kept o) c.args.capacity c.in-Ok.held) c.content.ensures.value c.in-Ok.ensures.value in
    opening_by answers_in _ _ _
    (λ x is. subst (λ (h : BookTables). FindsAnswers (book_in value) (is_kept value) c.args.capacity h) (sym is) found)
    (memory_misses (book_in value) (is_kept value) c.args.capacity c.in-Ok.held found)
    c.put_after.ensures

pub returns-in-Err-clause-told : goal.returns-in-Err-clause-told
returns-in-Err-clause-told c =
    opening_refused answers_in _ _ c.args.handle.now.pointer.value _
    (subst (λ (o : Option Content). IsAnswersFault (book_in o) (is_kept o) c.args.capacity c.in-Err.error) c.content.ensures.value c.in-Err.ensures.fault)
