use Rattle.std.proofs.Common.{◌≡◌, map, length}
use Rattle.serde_json.specs.View.{view}
use Rattle.icu_decimal_patterns.specs.SlotsJson.{repeats_name}
use Rattle.icu_decimal_patterns.proofs.json.slots.repeats_name.Given as goal

abbrev pub invariant-loop-left : goal.invariant-loop-left
invariant-loop-left l = repeats_name (map view l.left) ≡ repeats_name (map view l.slots)

abbrev pub decreases-loop-left : goal.decreases-loop-left
decreases-loop-left l = length l.left
