use Rattle.std.proofs.Common.{Err, ap}
use Rattle.serde_json.specs.View.{view}
use Rattle.locale_numbers_units.proofs.AddLemmas.{said_under}
use Rattle.locale_numbers_units.proofs.FaultLemmas.{told_added, told_anyway, told_under}
use Rattle.locale_numbers_units.proofs.tables.add_entry.Goals as goal

pub returns-in-Ok-add-clause-added : goal.returns-in-Ok-add-clause-added
returns-in-Ok-add-clause-added g c = record {
  pair = (c.in-Ok.key, c.in-Ok-read.said);
  says = said_under g.A.UnitArray.key_in g.A.UnitArray.said_in (view c.args.entry) c.in-Ok.key c.in-Ok-read.said c.in-Ok.ensures.key c.in-Ok-read.ensures.value;
  keyed = c.in-Ok.ensures.key;
  sound = c.in-Ok-read.ensures.sound;
  fresh = c.in-Ok-add.ensures.fresh;
  added = c.in-Ok-add.ensures.added;
}

pub returns-in-Ok-read-clause-fault : goal.returns-in-Ok-read-clause-fault
returns-in-Ok-read-clause-fault g c =
    told_added g.A.Key.PartialEq.eq g.A.UnitArray.key_in g.A.UnitArray.fault_in c.args.table.now.entries (view c.args.entry) c.in-Ok.key c.in-Err-add.fault
    c.in-Ok.ensures.sound c.in-Ok.ensures.key c.in-Err-add.ensures.only (λ is. c.in-Err-add.ensures.duplicate (ap Err is))

pub returns-in-Ok-clause-fault : goal.returns-in-Ok-clause-fault
returns-in-Ok-clause-fault g c =
    told_under g.A.Key.PartialEq.eq g.A.UnitArray.key_in g.A.UnitArray.fault_in c.args.table.now.entries (view c.args.entry) c.in-Ok.key c.in-Err-read.fault c.fault_under.result
    c.in-Ok.ensures.sound c.in-Ok.ensures.key c.in-Err-read.ensures.fault c.fault_under.ensures.twice c.fault_under.ensures.fresh

pub returns-clause-fault : goal.returns-clause-fault
returns-clause-fault g c =
    told_anyway g.A.Key.PartialEq.eq g.A.UnitArray.key_in g.A.UnitArray.fault_in c.args.table.now.entries (view c.args.entry) c.in-Err.fault
    c.in-Err.ensures.fault
