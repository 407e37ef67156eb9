use Rattle.std.proofs.Common.{◌≡◌, ◌≤◌, drop}
use Rattle.std.specs.Prelude.{option_and_then}
use Rattle.serde_json.specs.View.{items_view}
use Rattle.locale_numbers_compact_amounts.specs.AmountSlots.{added_from}
use Rattle.locale_numbers_compact_amounts.proofs.slots.add_all.Given as goal

abbrev pub invariant-loop-item : goal.invariant-loop-item
invariant-loop-item l = record {
  left : option_and_then (λ s. added_from l.least s (items_view (drop l.item-index l.slots))) l.held ≡ option_and_then (λ s. added_from 1 s (items_view l.slots)) l.initial.held;
  small : l.least ≤ 6;
}
