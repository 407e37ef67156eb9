use Rattle.std.proofs.Common.{◌≡◌, Some, sym, ◌∙◌}
use Rattle.serde_json.specs.View.{items_view, view}
use Rattle.locale_numbers_words.specs.Categories.{slot_in}
use Rattle.locale_numbers_words.proofs.SlotsLemmas.{gathered_more, gathered_none, gathered_twice}
use Rattle.locale_numbers_words.proofs.slots.fill.Goals as goal

pub loop-item-init : goal.loop-item-init
loop-item-init g c = gathered_none (slot_in g.T.SlotValue.said) (items_view c.args.items.now) c.args.slots.now c.requires

pub returns-then-has : goal.returns-then-has
returns-then-has g c =
    let reads : slot_in g.T.SlotValue.said (view c.item-item.result) ≡ Some (c.in-Ok-Some.category, c.in-Ok-Some.value) = sym c.in-Ok-Some.ensures ∙ c.in-Ok-Some.field-0-is in
    gathered_twice (slot_in g.T.SlotValue.said) c.args.items.now c.loop-item.item-index c.item-item.result c.loop-item.slots c.in-Ok-Some.category c.in-Ok-Some.value
    c.loop-item.invariant c.loop-item-test.true c.item-item.is reads (sym c.has.ensures ∙ c.if-has.true)

pub loop-item-preserved : goal.loop-item-preserved
loop-item-preserved g c =
    let reads : slot_in g.T.SlotValue.said (view c.item-item.result) ≡ Some (c.in-Ok-Some.category, c.in-Ok-Some.value) = sym c.in-Ok-Some.ensures ∙ c.in-Ok-Some.field-0-is in
    gathered_more (slot_in g.T.SlotValue.said) c.args.items.now c.loop-item.item-index c.item-item.result c.loop-item.slots _ c.in-Ok-Some.category c.in-Ok-Some.value
    c.loop-item.invariant c.loop-item-test.true c.item-item.is reads (sym c.has.ensures ∙ c.if-has.false) c.put.ensures
