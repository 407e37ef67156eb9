use Rattle.std.proofs.Common.{◌≡◌, None, sym, ◌∙◌}
use Rattle.locale_numbers_tables.specs.Keys.{table_at}
use Rattle.locale_numbers_words.proofs.FaultLemmas.{found_nothing, found_other, found_same, stays}
use Rattle.locale_numbers_words.proofs.tables.put.Goals as goal

pub put_new-requires : goal.put_new-requires
put_new-requires g c = found_nothing g.A.WordArray.same_said _ _ (sym c.in-Nothing.is ∙ c.find.ensures)

pub returns-in-Nothing-clause-sound : goal.returns-in-Nothing-clause-sound
returns-in-Nothing-clause-sound g c =
    let none : table_at g.A.Key.PartialEq.eq c.args.key c.args.table.now.entries ≡ None = found_nothing g.A.WordArray.same_said _ _ (sym c.in-Nothing.is ∙ c.find.ensures) in
    rw none c.put_new.ensures.sound

pub returns-in-Nothing-clause-fault : goal.returns-in-Nothing-clause-fault
returns-in-Nothing-clause-fault g c =
    let none : table_at g.A.Key.PartialEq.eq c.args.key c.args.table.now.entries ≡ None = found_nothing g.A.WordArray.same_said _ _ (sym c.in-Nothing.is ∙ c.find.ensures) in
    rw none c.put_new.ensures.fault

pub returns-in-Same-clause-added : goal.returns-in-Same-clause-added
returns-in-Same-clause-added g c = stays g.A.WordArray.same_said g.A.Key.PartialEq.eq c.args.table.now.entries c.args.key c.args.said (sym c.in-Same.is ∙ c.find.ensures)

pub returns-in-Same-clause-sound : goal.returns-in-Same-clause-sound
returns-in-Same-clause-sound g c = found_same g.A.WordArray.same_said g.A.WordArray.late _ _ (sym c.in-Same.is ∙ c.find.ensures)

pub returns-in-Other-clause-fault : goal.returns-in-Other-clause-fault
returns-in-Other-clause-fault g c = found_other g.A.WordArray.same_said g.A.WordArray.late _ _ (sym c.in-Other.is ∙ c.find.ensures)
