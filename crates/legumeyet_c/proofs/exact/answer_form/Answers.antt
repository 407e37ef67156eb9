use Rattle.std.proofs.Common.{rules, w32, Ok, Err, ap, ◌∙◌}
use Rattle.std.proofs.lemmas.Int.{to_z-of_z}
use mir.Val.{SFits}
use Rattle.locale_numbers_formatter.specs.FormatText.{fractions_in}
use Rattle.legumeyet_c_values.proofs.NumbersLemmas.{compact_fault_other}
use Rattle.legumeyet_c.specs.Kinds.{format_in}
use Rattle.legumeyet_c.specs.Opened.{opened}
use Rattle.legumeyet_c.specs.Worded.{IsForm, IsFormFault}
use Rattle.legumeyet_c.specs.Writing.{Asked, GivesForm, IsFormRefused, asked_for, asked_of}
use Rattle.legumeyet_c.proofs.AskedLemmas.{asked_put, gives_form, refuses_form, unasked_put, ungiven, written}
use Rattle.legumeyet_c.proofs.exact.answer_form.Goals as goal

pub returns-in-Ok-compact_of_text : goal.returns-in-Ok-compact_of_text
returns-in-Ok-compact_of_text c =
    let fits : SFits w32 c.status_of.result = search rules in
    let number = c.args.number.now in
    let asked : Asked = asked_for c.asked-in-Ok.inside.lent c.asked-in-Ok.inside.options in
    let form = c.in-Ok-compact_of_text.form in
    record {
      outcome = c.put_form.result;
      number = to_z-of_z w32 c.status_of.result fits ∙ c.status_of.ensures;
      held = asked_put IsForm IsFormFault (GivesForm number) (IsFormRefused number) (asked_of (format_in (opened c.args.content)) c.args.words.now) (Ok asked) _ _ _ _ _
          (ap (λ (a : Asked). Ok a) c.asked-in-Ok.view_is ∙ c.in-Ok.ensures)
          (written IsForm IsFormFault (GivesForm number) (IsFormRefused number) asked form _ _ _ _ _
          (gives_form number asked c.fractions-fractions.result form c.fractions-fractions.ensures c.in-Ok-compact_of_text.ensures.value) c.put_form.ensures);
    }

pub returns-in-Err-compact_of_text : goal.returns-in-Err-compact_of_text
returns-in-Err-compact_of_text c =
    let fits : SFits w32 c.number.result = search rules in
    let number = c.args.number.now in
    let asked : Asked = asked_for c.asked-in-Ok.inside.lent c.asked-in-Ok.inside.options in
    let error = c.in-Err-compact_of_text.error in
    let refused = refuses_form number asked c.fractions-fractions.result error c.fractions-fractions.ensures c.in-Err-compact_of_text.ensures.fault in
    record {
      outcome = Err error;
      number = to_z-of_z w32 c.number.result fits ∙ c.number.ensures;
      held = asked_put IsForm IsFormFault (GivesForm number) (IsFormRefused number) (asked_of (format_in (opened c.args.content)) c.args.words.now) (Ok asked) _ _ _ _ _
          (ap (λ (a : Asked). Ok a) c.asked-in-Ok.view_is ∙ c.in-Ok.ensures)
          (ungiven IsForm IsFormFault (GivesForm number) (IsFormRefused number) asked _ _ error
          (compact_fault_other asked.options (fractions_in asked.wording.tables) number error refused) refused);
    }

pub returns-in-Err : goal.returns-in-Err
returns-in-Err c =
    let fits : SFits w32 c.number-in-Err.result = search rules in
    let number = c.args.number.now in
    record {
      outcome = Err c.in-Err.error;
      number = to_z-of_z w32 c.number-in-Err.result fits ∙ c.number-in-Err.ensures;
      held = unasked_put IsForm IsFormFault (GivesForm number) (IsFormRefused number) (format_in (opened c.args.content)) c.args.words.now _ _ c.in-Err.error c.in-Err.ensures;
    }
