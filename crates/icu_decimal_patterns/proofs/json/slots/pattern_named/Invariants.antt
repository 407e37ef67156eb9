use Rattle.std.proofs.Common.{◌≡◌, drop, map}
use Rattle.serde_json.specs.View.{view}
use Rattle.icu_decimal_patterns.specs.SlotsJson.{pattern_named}
use Rattle.icu_decimal_patterns.proofs.json.slots.pattern_named.Given as goal

abbrev pub invariant-loop-slot : goal.invariant-loop-slot
invariant-loop-slot l = pattern_named l.name (map view (drop l.slot-index l.slots)) ≡ pattern_named l.name (map view l.slots)
