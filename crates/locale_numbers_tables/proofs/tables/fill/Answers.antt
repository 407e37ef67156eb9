use Rattle.std.proofs.Common.{◌≡◌, ◌++◌, option_map, sym, ap, ◌∙◌}
use Rattle.std.specs.Vec.Iter.{into_iter_items}
use Rattle.serde_json.specs.Data.{item}
use Rattle.serde_json.specs.View.{items_view, view}
use Rattle.locale_numbers_tables.specs.Entries.{all_of}
use Rattle.locale_numbers_tables.specs.Allocation.{begins_with}
use Rattle.locale_numbers_tables.proofs.AddLemmas.{faults_after, one_more_said, passed, still_once}
use Rattle.locale_numbers_tables.proofs.tables.fill.Goals as goal

pub loop-entry-preserved : goal.loop-entry-preserved
loop-entry-preserved g c =
    let entry = view c.in-Some.entry in
    let rest = items_view (into_iter_items c.next.new.self) in
    let step : items_view (into_iter_items c.loop-entry.entry-iterator) ≡ item entry rest = ap items_view c.in-Some.ensures.steps.0 in
    let adds = c.in-Ok.ensures.added in
    let passes = passed g.V.Key.PartialEq.eq g.V.Entry.meaning g.V.Entry.key_in g.V.Entry.fault_in entry rest _ _ adds in
    let before = c.loop-entry.table.entries in
    let read = c.loop-entry.invariant.all ∙ ap (λ items. option_map (λ done. before ++ done) (all_of g.V.Entry.meaning items)) step in
    record {
      all = one_more_said g.V.Key.PartialEq.eq g.V.Entry.meaning g.V.Entry.key_in g.V.Entry.fault_in _ entry rest _ _ adds read;
      once = still_once g.V.Key.PartialEq.eq g.V.Entry.meaning g.V.Entry.key_in g.V.Entry.fault_in entry _ _ g.met.V.Key.Eq.laws.symm adds c.loop-entry.invariant.once;
      left = sym passes ∙ sym (ap (faults_after g.V.Key.PartialEq.eq g.V.Entry.key_in g.V.Entry.fault_in before) step) ∙ c.loop-entry.invariant.left;
      seeded = c.in-Ok.ensures.seeded ∙ c.loop-entry.invariant.seeded;
      first = λ h. c.loop-entry.invariant.first (ap (begins_with g.V.Entry.may_grow) step ∙ c.in-Ok.ensures.grows);
    }
