use Rattle.std.proofs.Common.{◌≡◌, Some, sym, ◌∙◌}
use Rattle.serde_json.specs.View.{view}
use Rattle.locale_numbers_compact_amounts.specs.AmountSlots.{slot_in}
use Rattle.locale_numbers_compact_amounts.proofs.SlotLemmas.{one_added, out_of_order, small_after}
use Rattle.locale_numbers_compact_amounts.proofs.slots.add_all.Goals as goal

pub returns-then-place-least : goal.returns-then-place-least
returns-then-place-least c =
    let reads : slot_in (view c.item-item.result) ≡ Some (c.in-Ok-Some.category, c.in-Ok-Some.patterns) = sym c.in-Ok-Some.ensures ∙ c.in-Ok-Some.field-0-is in
    sym (out_of_order c.args.slots.now c.loop-item.item-index c.item-item.result c.loop-item-test.true c.item-item.is c.in-Ok-Some.category c.in-Ok-Some.patterns reads
    c.loop-item.least c.rank-place.result c.loop-item.held c.rank-place.ensures c.if-place-least.true)
    ∙ c.loop-item.invariant.left

pub loop-item-preserved : goal.loop-item-preserved
loop-item-preserved c =
    let reads : slot_in (view c.item-item.result) ≡ Some (c.in-Ok-Some.category, c.in-Ok-Some.patterns) = sym c.in-Ok-Some.ensures ∙ c.in-Ok-Some.field-0-is in
    record {
      left = one_added c.args.slots.now c.loop-item.item-index c.item-item.result c.loop-item-test.true c.item-item.is c.in-Ok-Some.category c.in-Ok-Some.patterns reads
          c.loop-item.least c.rank-place.result c.loop-item.held _ c.rank-place.ensures c.if-place-least.false c.add.ensures
          ∙ c.loop-item.invariant.left;
      small = small_after c.in-Ok-Some.category c.rank-place.result c.rank-place.ensures;
    }
