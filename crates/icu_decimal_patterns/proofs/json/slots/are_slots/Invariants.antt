use Rattle.std.proofs.Common.{◌≡◌, drop, map}
use Rattle.std.specs.List.{list_all}
use Rattle.serde_json.specs.View.{view}
use Rattle.icu_decimal_patterns.specs.SlotsJson.{is_slot}
use Rattle.icu_decimal_patterns.proofs.json.slots.are_slots.Given as goal

abbrev pub invariant-loop-slot : goal.invariant-loop-slot
invariant-loop-slot l = list_all is_slot (map view (drop l.slot-index l.slots)) ≡ list_all is_slot (map view l.slots)
