use Rattle.std.proofs.Common.{◌≡◌, drop, map}
use Rattle.std.specs.List.{list_any}
use Rattle.serde_json.specs.View.{view}
use Rattle.icu_decimal_patterns.specs.SlotsJson.{is_named}
use Rattle.icu_decimal_patterns.proofs.json.slots.has_named.Given as goal

abbrev pub invariant-loop-slot : goal.invariant-loop-slot
invariant-loop-slot l = list_any (is_named l.name) (map view (drop l.slot-index l.slots)) ≡ list_any (is_named l.name) (map view l.slots)
