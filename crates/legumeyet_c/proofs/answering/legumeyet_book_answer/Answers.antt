use Rattle.std.proofs.Common.{rules, ℕ, List, w32, Err, sym, subst, Option, ap, ◌∙◌}
use Rattle.std.proofs.lemmas.Int.{to_z-of_z}
use mir.Val.{SFits}
use Rattle.locale_numbers.specs.Book.{BookTables}
use Rattle.legumeyet_c_values.proofs.PuttingLemmas.{put_by, put_refused}
use Rattle.legumeyet_c.specs.Answering.{IsAnswerFault, SaysAnswer}
use Rattle.legumeyet_c.specs.Kinds.{book_in}
use Rattle.legumeyet_c.specs.Opened.{opened}
use Rattle.legumeyet_c.proofs.ReadingLemmas.{answer_fault_other}
use Rattle.legumeyet_c.proofs.answering.legumeyet_book_answer.Goals as goal

pub returns-in-Ok-clause-told : goal.returns-in-Ok-clause-told
returns-in-Ok-clause-told c =
    let fits : SFits w32 c.status_of.result = search rules in
    let shown = book_in (opened c.content.result) in
    record {
      outcome = c.put_bytes.result;
      number = to_z-of_z w32 c.status_of.result fits ∙ c.status_of.ensures;
      held = put_by _ _ _ _ _
          (λ text is. subst (λ (b : Option BookTables). SaysAnswer b c.args.line.now text) (ap book_in c.content.ensures.value)
          (subst (λ (t : List ℕ). SaysAnswer shown c.args.line.now t) (sym (is ∙ c.as_slice.ensures.value)) c.in-Ok.ensures.value))
          (λ error none. absurd none)
          c.put_bytes.ensures;
    }

pub returns-in-Err-clause-told : goal.returns-in-Err-clause-told
returns-in-Err-clause-told c =
    let fits : SFits w32 c.number.result = search rules in
    record {
      outcome = Err c.in-Err.error;
      number = to_z-of_z w32 c.number.result fits ∙ c.number.ensures;
      held = put_refused _ _ _ _ _ (answer_fault_other (book_in (opened c.content.result)) c.in-Err.error c.in-Err.ensures.fault)
          (subst (λ (b : Option BookTables). IsAnswerFault b c.in-Err.error) (ap book_in c.content.ensures.value) c.in-Err.ensures.fault);
    }
