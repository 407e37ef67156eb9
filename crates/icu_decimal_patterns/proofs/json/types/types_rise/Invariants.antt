use Rattle.std.proofs.Common.{◌≡◌, ◌≤◌, drop, map}
use Rattle.serde_json.specs.View.{view}
use Rattle.icu_decimal_patterns.specs.TableJson.{rise_from}
use Rattle.icu_decimal_patterns.specs.TableSteps.{known_types}
use Rattle.icu_decimal_patterns.proofs.json.types.types_rise.Given as goal

abbrev pub invariant-loop-row : goal.invariant-loop-row
invariant-loop-row l = record {
  left : rise_from l.least (known_types (map view (drop l.row-index l.rows))) ≡ rise_from 0 (known_types (map view l.rows));
  small : l.least ≤ 256;
}
