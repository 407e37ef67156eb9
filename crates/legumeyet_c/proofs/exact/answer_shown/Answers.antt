use Rattle.std.proofs.Common.{rules, w32, Ok, Err, ap, ◌∙◌}
use Rattle.std.proofs.lemmas.Int.{to_z-of_z}
use mir.Val.{SFits}
use Rattle.legumeyet_c_values.specs.Numbers.{spelled}
use Rattle.legumeyet_c.specs.Kinds.{format_in}
use Rattle.legumeyet_c.specs.Opened.{opened}
use Rattle.legumeyet_c.specs.Worded.{IsNotShown, IsShown}
use Rattle.legumeyet_c.specs.Writing.{Asked, GivesNumber, IsNumberRefused, asked_for, asked_of}
use Rattle.legumeyet_c.proofs.AskedLemmas.{asked_put, unasked_put}
use Rattle.legumeyet_c.proofs.exact.answer_shown.Goals as goal

pub returns-in-Ok : goal.returns-in-Ok
returns-in-Ok c =
    let fits : SFits w32 c.status_of.result = search rules in
    let number = spelled c.args.number.now in
    record {
      outcome = c.write_shown.result;
      number = to_z-of_z w32 c.status_of.result fits ∙ c.status_of.ensures;
      held = asked_put IsShown IsNotShown (GivesNumber number) (IsNumberRefused number) (asked_of (format_in (opened c.args.content)) c.args.words.now)
          (Ok (asked_for c.asked-in-Ok.inside.lent c.asked-in-Ok.inside.options)) _ _ _ _ _ (ap (λ (a : Asked). Ok a) c.asked-in-Ok.view_is ∙ c.in-Ok.ensures) c.write_shown.ensures;
    }

pub returns-in-Err : goal.returns-in-Err
returns-in-Err c =
    let fits : SFits w32 c.number.result = search rules in
    let number = spelled c.args.number.now in
    record {
      outcome = Err c.in-Err.error;
      number = to_z-of_z w32 c.number.result fits ∙ c.number.ensures;
      held = unasked_put IsShown IsNotShown (GivesNumber number) (IsNumberRefused number) (format_in (opened c.args.content)) c.args.words.now _ _ c.in-Err.error c.in-Err.ensures;
    }
