use Rattle.std.proofs.Common.{◌≡◌, ◌++◌, drop, map}
use Rattle.serde_json.specs.View.{view}
use Rattle.icu_decimal_patterns.specs.HeldSlots.{held_slot}
use Rattle.icu_decimal_patterns.specs.TableJson.{filled_slots}
use Rattle.icu_decimal_patterns.proofs.json.written.filled_slots.Given as goal

abbrev pub invariant-loop-slot : goal.invariant-loop-slot
invariant-loop-slot l = map view l.list.items ++ filled_slots (map held_slot (drop l.slot-index l.slots)) ≡ filled_slots (map held_slot l.slots)
