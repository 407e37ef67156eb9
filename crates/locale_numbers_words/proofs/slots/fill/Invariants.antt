use Rattle.std.proofs.Common.{drop}
use Rattle.serde_json.specs.View.{items_view}
use Rattle.locale_numbers_words.specs.Categories.{slot_in}
use Rattle.locale_numbers_words.proofs.SlotsLemmas.{Gathered}
use Rattle.locale_numbers_words.proofs.slots.fill.Given as goal

abbrev pub invariant-loop-item : goal.invariant-loop-item
invariant-loop-item g l = Gathered (slot_in g.T.SlotValue.said) (items_view l.items) (items_view (drop l.item-index l.items)) l.slots
