use Rattle.std.proofs.Common.{◌≡◌, ◌++◌, option_map, sym, ap, ◌∙◌}
use Rattle.std.specs.Vec.Iter.{into_iter_items}
use Rattle.serde_json.specs.Data.{item}
use Rattle.serde_json.specs.View.{items_view, view}
use Rattle.locale_numbers_tables.specs.Allocation.{begins_with}
use Rattle.locale_numbers_tables.specs.Entries.{all_of}
use Rattle.locale_numbers_units.specs.Faults.{under_key}
use Rattle.locale_numbers_units.proofs.AddLemmas.{one_more_said, passed, still_once}
use Rattle.locale_numbers_tables.proofs.FaultLemmas.{told_at}
use Rattle.locale_numbers_units.proofs.FaultLemmas.{faults_after, told_entry}
use Rattle.locale_numbers_units.proofs.tables.fill.Goals as goal

pub loop-entry-preserved : goal.loop-entry-preserved
loop-entry-preserved g c =
    let same = g.A.Key.PartialEq.eq in
    let key = g.A.UnitArray.key_in in
    let said = g.A.UnitArray.said_in in
    let fault = g.A.UnitArray.fault_in in
    let entry = view c.in-Some.entry in
    let rest = items_view (into_iter_items c.next.new.self) in
    let step : items_view (into_iter_items c.loop-entry.entry-iterator) ≡ item entry rest = ap items_view c.in-Some.ensures.steps.0 in
    let adds = c.in-Ok.ensures.added in
    let passes = passed same key said fault entry rest _ _ adds in
    let before = c.loop-entry.table.entries in
    let read = c.loop-entry.invariant.all ∙ ap (λ items. option_map (λ done. before ++ done) (all_of (under_key key said) items)) step in
    record {
      all = one_more_said same key said fault _ entry rest _ _ adds read;
      once = still_once same key said fault entry _ _ g.met.A.Key.Eq.laws.symm adds c.loop-entry.invariant.once;
      left = sym passes ∙ sym (ap (faults_after same key fault before) step) ∙ c.loop-entry.invariant.left;
      seeded = c.in-Ok.ensures.seeded ∙ c.loop-entry.invariant.seeded;
      first = λ h. c.loop-entry.invariant.first (ap (begins_with g.A.UnitArray.may_grow) step ∙ c.in-Ok.ensures.grows);
    }

pub returns-in-Err-clause-fault : goal.returns-in-Err-clause-fault
returns-in-Err-clause-fault g c =
    let same = g.A.Key.PartialEq.eq in
    let key = g.A.UnitArray.key_in in
    let fault = g.A.UnitArray.fault_in in
    let before = c.loop-entry.table.entries in
    let entry = view c.in-Some.entry in
    let rest = items_view (into_iter_items c.next.new.self) in
    let step : items_view (into_iter_items c.loop-entry.entry-iterator) ≡ item entry rest = ap items_view c.in-Some.ensures.steps.0 in
    told_at _ _ c.in-Err.fault (sym (ap (faults_after same key fault before) step) ∙ c.loop-entry.invariant.left)
    (told_entry same key fault before entry rest c.in-Err.fault c.in-Err.ensures.fault)
