use Rattle.std.proofs.Common.{sym, ◌∙◌, Result, Ok, Err, OnOk}
use Rattle.indexmap.proofs.CallerLemmas.{insert_entry-new}
use Rattle.locale_numbers_tables.proofs.table.add.Goals as goal

in_any : {T E : Type 0} (r : Result T E) (P : Type 0) → P → OnOk r P
in_any (Ok x) P p = p
in_any (Err e) P p = tt

pub returns-in-Ok-None-clause-added : goal.returns-in-Ok-None-clause-added
returns-in-Ok-None-clause-added g c =
    in_any c.make_room.result _
    (c.make_room.ensures.same ∙ c.in-Ok-None.ensures.entries ∙ insert_entry-new g.K.PartialEq.eq c.args.table.now c.args.key c.args.value (sym c.in-Ok-None.ensures.old ∙ c.in-Ok-None.field-0-is))
