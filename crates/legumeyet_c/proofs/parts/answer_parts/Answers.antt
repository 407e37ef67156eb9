use Rattle.std.proofs.Common.{rules, w32, Err, sym, subst, ◌∙◌}
use Rattle.std.proofs.lemmas.Int.{to_z-of_z}
use mir.Val.{SFits}
use Rattle.writeable.specs.AnnotatedText.{AnnotatedText}
use Rattle.legumeyet_c_values.specs.Numbers.{spelled}
use Rattle.legumeyet_c_values.proofs.PartsLemmas.{parts_by, parts_refused}
use Rattle.legumeyet_c.specs.Kinds.{format_in}
use Rattle.legumeyet_c.specs.Opened.{opened}
use Rattle.legumeyet_c.specs.Worded.{IsTextInParts}
use Rattle.legumeyet_c.specs.Writing.{WritesNumber}
use Rattle.legumeyet_c.proofs.AskedLemmas.{parts_other}
use Rattle.legumeyet_c.proofs.parts.answer_parts.Goals as goal

pub returns-in-Ok : goal.returns-in-Ok
returns-in-Ok c =
    let fits : SFits w32 c.status_of.result = search rules in
    record {
      outcome = c.put_parts.result;
      number = to_z-of_z w32 c.status_of.result fits ∙ c.status_of.ensures;
      held = parts_by _ _ _
          (λ text is. subst (λ (t : AnnotatedText). WritesNumber IsTextInParts (format_in (opened c.args.content)) c.args.words.now (spelled c.args.number.now) t) (sym is) c.in-Ok.ensures.value)
          (λ error none. absurd none)
          c.put_parts.ensures;
    }

pub returns-in-Err : goal.returns-in-Err
returns-in-Err c =
    let fits : SFits w32 c.number.result = search rules in
    record {
      outcome = Err c.in-Err.error;
      number = to_z-of_z w32 c.number.result fits ∙ c.number.ensures;
      held = parts_refused _ _ _ _ (parts_other (format_in (opened c.args.content)) c.args.words.now (spelled c.args.number.now) c.in-Err.error c.in-Err.ensures.fault) c.in-Err.ensures.fault;
    }
