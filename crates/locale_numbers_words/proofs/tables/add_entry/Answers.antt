use Rattle.serde_json.specs.View.{view}
use Rattle.locale_numbers_tables.specs.Keys.{table_at}
use Rattle.locale_numbers_words.specs.Faults.{under}
use Rattle.locale_numbers_words.proofs.tables.add_entry.Goals as goal

pub returns-in-Ok-clause-added : goal.returns-in-Ok-clause-added
returns-in-Ok-clause-added g c = rw (c.in-Ok.ensures.key, c.in-Ok.ensures.said) c.put.ensures.added

pub returns-in-Ok-clause-sound : goal.returns-in-Ok-clause-sound
returns-in-Ok-clause-sound g c =
    rw (c.in-Ok.ensures.key, c.in-Ok.ensures.late (table_at g.A.Key.PartialEq.eq c.in-Ok.key c.args.table.now.entries)) c.put.ensures.sound

pub returns-in-Ok-clause-fault : goal.returns-in-Ok-clause-fault
returns-in-Ok-clause-fault g c =
    rw (c.in-Ok.ensures.key, c.in-Ok.ensures.late (table_at g.A.Key.PartialEq.eq c.in-Ok.key c.args.table.now.entries)) c.put.ensures.fault

pub returns-in-Err-clause-fault : goal.returns-in-Err-clause-fault
returns-in-Err-clause-fault g c =
    c.in-Err.ensures.fault (under g.A.Key.PartialEq.eq c.args.table.now.entries (g.A.WordArray.key_in (view c.args.entry)))
