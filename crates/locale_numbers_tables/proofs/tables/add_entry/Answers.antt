use Rattle.std.proofs.Common.{Err, ap}
use Rattle.serde_json.specs.View.{view}
use Rattle.locale_numbers_tables.proofs.AddLemmas.{doubled}
use Rattle.locale_numbers_tables.proofs.FaultLemmas.{told_twice}
use Rattle.locale_numbers_tables.proofs.tables.add_entry.Goals as goal

pub returns-in-Err-add-clause-fault : goal.returns-in-Err-add-clause-fault
returns-in-Err-add-clause-fault g c =
    told_twice _ c.in-Err-add.fault c.in-Err-add.ensures.only (λ is. doubled g.V.Key.PartialEq.eq g.V.Entry.key_in g.V.Entry.fault_in c.args.table.now.entries (view c.args.entry) c.in-Ok.key
    c.in-Ok.ensures.sound c.in-Ok.ensures.key (c.in-Err-add.ensures.duplicate (ap Err is)))
