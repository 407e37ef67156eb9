use Rattle.std.proofs.Common.{drop, map}
use Rattle.serde_json.specs.View.{view}
use Rattle.icu_decimal_patterns.specs.KeptEntries.{NeverFalls}
use Rattle.icu_decimal_patterns.specs.TableSteps.{known_types}
use Rattle.icu_decimal_patterns.proofs.json.types.never_falls.Given as goal

abbrev pub invariant-loop-row : goal.invariant-loop-row
invariant-loop-row l =
    (NeverFalls l.least (known_types (map view (drop l.row-index l.rows))) → NeverFalls 0 (known_types (map view l.rows)))
    × (NeverFalls 0 (known_types (map view l.rows)) → NeverFalls l.least (known_types (map view (drop l.row-index l.rows))))
