use Rattle.std.proofs.Common.{◌≡◌, drop}
use Rattle.serde_json.specs.View.{items_view}
use Rattle.locale_numbers_tables.specs.CompactEntries.{each, is_plain_slot}
use Rattle.locale_numbers_tables.proofs.texts.all_slots.Given as goal

abbrev pub invariant-loop-slot : goal.invariant-loop-slot
invariant-loop-slot l = each is_plain_slot (items_view (drop l.slot-index l.slots)) ≡ each is_plain_slot (items_view l.slots)
