use Rattle.std.proofs.Common.{rules, w32, Result, Ok, Err, refl, ap, subst, ◌∙◌}
use Rattle.std.proofs.lemmas.Int.{to_z-of_z}
use mir.Val.{SFits}
use Rattle.legumeyet_c_values.specs.Columns.{given_in, room}
use Rattle.legumeyet_c_values.specs.declared.CallError.{CallError}
use Rattle.legumeyet_c.specs.ColumnWriting.{IsAskedColumn}
use Rattle.legumeyet_c.specs.Writing.{Asked}
use Rattle.legumeyet_c.proofs.column_writing.answer_column.Goals as goal

pub returns-in-Ok : goal.returns-in-Ok
returns-in-Ok c =
    let fits : SFits w32 c.status_of.result = search rules in
    let before = room c.args.out.now c.args.ends.now c.args.count.now in
    let after = room c.write_column.new.out c.write_column.new.ends c.write_column.new.count in
    record {
      outcome = c.write_column.result;
      number = to_z-of_z w32 c.status_of.result fits ∙ c.status_of.ensures;
      held = subst (λ (a : Result Asked CallError). IsAskedColumn a (given_in c.args.column) before after c.write_column.result)
          (ap (λ (a : Asked). Ok a) (c.new-writer.ensures ∙ c.asked-in-Ok.view_is) ∙ c.in-Ok.ensures) c.write_column.ensures;
    }

pub returns-in-Err : goal.returns-in-Err
returns-in-Err c =
    let fits : SFits w32 c.number.result = search rules in
    let before = room c.args.out.now c.args.ends.now c.args.count.now in
    let after = room c.args.out.now c.args.ends.now 0 in
    record {
      outcome = Err c.in-Err.error;
      number = to_z-of_z w32 c.number.result fits ∙ c.number.ensures;
      held = subst (λ (a : Result Asked CallError). IsAskedColumn a (given_in c.args.column) before after (Err c.in-Err.error)) c.in-Err.ensures (record { cause = refl; untouched = refl });
    }
