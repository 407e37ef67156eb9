use Rattle.std.proofs.Common.{inr}
use Rattle.legumeyet_c_values.specs.Numbers.{spelled}
use Rattle.legumeyet_c.specs.Writing.{Asked, asked_for}
use Rattle.legumeyet_c.proofs.AskedLemmas.{gives_number, refuses_number}
use Rattle.legumeyet_c.proofs.ranges.give_ends.Goals as goal

pub returns-in-Ok-clause-value : goal.returns-in-Ok-clause-value
returns-in-Ok-clause-value c =
    let lent = c.args.lent.now in
    let asked : Asked = asked_for lent c.args.options.now in (
      gives_number (spelled c.args.first.now) asked c.fractions-fractions.result c.assign_changed.new.number c.fractions-fractions.ensures c.in_ok-assign_changed.ensures.value,
      gives_number (spelled c.args.second.now) asked c.fractions-fractions.result c.assign_changed-2.new.number c.fractions-fractions.ensures c.in-Ok.ensures.value,
    )

pub returns-in-Err-clause-fault : goal.returns-in-Err-clause-fault
returns-in-Err-clause-fault c =
    let lent = c.args.lent.now in
    let asked : Asked = asked_for lent c.args.options.now in
    inr (record {
      value = c.assign_changed.new.number;
      given = gives_number (spelled c.args.first.now) asked c.fractions-fractions.result c.assign_changed.new.number c.fractions-fractions.ensures c.in_ok-assign_changed.ensures.value;
      refused = refuses_number (spelled c.args.second.now) asked c.fractions-fractions.result c.in-Err.error c.fractions-fractions.ensures c.in-Err.ensures.fault;
    })
