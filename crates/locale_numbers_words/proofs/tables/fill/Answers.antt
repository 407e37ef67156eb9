use Rattle.std.proofs.Common.{◌≡◌, sym, ap, ◌∙◌}
use Rattle.std.specs.Vec.Iter.{into_iter_items}
use Rattle.serde_json.specs.Data.{item}
use Rattle.serde_json.specs.View.{items_view, view}
use Rattle.locale_numbers_tables.specs.Allocation.{begins_with}
use Rattle.locale_numbers_words.specs.Faults.{table_after}
use Rattle.locale_numbers_words.proofs.FaultLemmas.{fault_step, faults_after, table_step, told_at, told_entry}
use Rattle.locale_numbers_words.proofs.tables.fill.Goals as goal

pub loop-entry-preserved : goal.loop-entry-preserved
loop-entry-preserved g c =
    let same = g.A.Key.PartialEq.eq in
    let key = g.A.WordArray.key_in in
    let said = g.A.WordArray.said_in in
    let fault = g.A.WordArray.fault_in in
    let entry = view c.in-Some.entry in
    let rest = items_view (into_iter_items c.next.new.self) in
    let step : items_view (into_iter_items c.loop-entry.entry-iterator) ≡ item entry rest = ap items_view c.in-Some.ensures.steps.0 in
    let before = c.loop-entry.table.entries in
    record {
      table = table_step same key said fault entry rest before _ c.in-Ok.ensures.added ∙ sym (ap (table_after same key said before) step) ∙ c.loop-entry.invariant.table;
      left = fault_step same key said fault entry rest before _ c.in-Ok.ensures.added c.in-Ok.ensures.sound ∙ sym (ap (faults_after same key said fault before) step) ∙ c.loop-entry.invariant.left;
      first = λ h. c.loop-entry.invariant.first (ap (begins_with g.A.WordArray.may_grow) step ∙ c.in-Ok.ensures.grows);
    }

pub returns-in-Err-clause-fault : goal.returns-in-Err-clause-fault
returns-in-Err-clause-fault g c =
    let same = g.A.Key.PartialEq.eq in
    let key = g.A.WordArray.key_in in
    let said = g.A.WordArray.said_in in
    let fault = g.A.WordArray.fault_in in
    let before = c.loop-entry.table.entries in
    let entry = view c.in-Some.entry in
    let rest = items_view (into_iter_items c.next.new.self) in
    let step : items_view (into_iter_items c.loop-entry.entry-iterator) ≡ item entry rest = ap items_view c.in-Some.ensures.steps.0 in
    told_at _ _ c.in-Err.fault (sym (ap (faults_after same key said fault before) step) ∙ c.loop-entry.invariant.left)
    (told_entry same key said fault entry rest before c.in-Err.fault c.in-Err.ensures.fault)
