use Rattle.std.proofs.Common.{◌≡◌, None, drop, map, option_map}
use Rattle.serde_json.specs.View.{view}
use Rattle.icu_decimal_patterns.specs.Elements.{without_one}
use Rattle.icu_decimal_patterns.specs.KeptEntries.{first_fault}
use Rattle.icu_decimal_patterns.specs.KeptSteps.{kept_of}
use Rattle.icu_decimal_patterns.specs.TableSteps.{known_types}
use Rattle.icu_decimal_patterns.proofs.json.types.first_fault.Given as goal

abbrev pub invariant-loop-row : goal.invariant-loop-row
invariant-loop-row l =
    first_fault (kept_of (option_map without_one l.kept) (known_types (map view (drop l.row-index l.rows))))
    ≡ first_fault (kept_of None (known_types (map view l.rows)))
