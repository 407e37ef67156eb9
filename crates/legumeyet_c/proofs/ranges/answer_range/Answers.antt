use Rattle.std.proofs.Common.{rules, w32, Err, Ok, Result, ap, ◌∙◌}
use Rattle.std.proofs.lemmas.Int.{to_z-of_z}
use mir.Val.{SFits}
use Rattle.legumeyet_c_values.specs.Numbers.{spelled}
use Rattle.legumeyet_c_values.specs.declared.CallError.{CallError}
use Rattle.legumeyet_c.specs.Kinds.{format_in}
use Rattle.legumeyet_c.specs.Opened.{opened}
use Rattle.legumeyet_c.specs.Worded.{IsRange, IsRangeFault}
use Rattle.legumeyet_c.specs.Writing.{AreEndsRefused, Asked, GivesEnds, range_asked_by, range_asked_of}
use Rattle.legumeyet_c.proofs.AskedLemmas.{asked_put, range_unasked}
use Rattle.legumeyet_c.proofs.ranges.answer_range.Goals as goal

pub returns-in-Ok : goal.returns-in-Ok
returns-in-Ok c =
    let fits : SFits w32 c.status_of.result = search rules in
    let first = spelled c.args.first.now in
    let second = spelled c.args.second.now in
    record {
      outcome = c.write_range.result;
      number = to_z-of_z w32 c.status_of.result fits ∙ c.status_of.ensures;
      held = asked_put IsRange IsRangeFault (GivesEnds first second) (AreEndsRefused first second) (range_asked_of (format_in (opened c.args.content)) c.args.words.now)
          (range_asked_by (Ok c.in-Ok.asked)) _ _ _ _ _ (ap range_asked_by c.in-Ok.ensures) c.write_range.ensures;
    }

pub returns-in-Err : goal.returns-in-Err
returns-in-Err c =
    let fits : SFits w32 c.number.result = search rules in
    let first = spelled c.args.first.now in
    let second = spelled c.args.second.now in
    record {
      outcome = Err c.in-Err.error;
      number = to_z-of_z w32 c.number.result fits ∙ c.number.ensures;
      held = range_unasked IsRange IsRangeFault (GivesEnds first second) (AreEndsRefused first second) (format_in (opened c.args.content)) c.args.words.now _ _ c.in-Err.error c.in-Err.ensures;
    }
