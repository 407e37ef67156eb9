use Rattle.std.proofs.Common.{◌≡◌, drop, is_some, map}
use Rattle.serde_json.specs.View.{view}
use Rattle.icu_decimal_patterns.specs.TableJson.{all_types}
use Rattle.icu_decimal_patterns.proofs.json.types.are_types.Given as goal

abbrev pub invariant-loop-row : goal.invariant-loop-row
invariant-loop-row l = is_some (all_types (map view (drop l.row-index l.rows))) ≡ is_some (all_types (map view l.rows))
