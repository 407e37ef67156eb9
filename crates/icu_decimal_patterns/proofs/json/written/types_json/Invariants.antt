use Rattle.std.proofs.Common.{◌≡◌, ◌++◌, drop, map}
use Rattle.serde_json.specs.View.{view}
use Rattle.icu_decimal_patterns.specs.SmallEntries.{AreSmall}
use Rattle.icu_decimal_patterns.specs.TableJson.{types_json}
use Rattle.icu_decimal_patterns.proofs.json.written.types_json.Given as goal

abbrev pub invariant-loop-place : goal.invariant-loop-place
invariant-loop-place l = record {
  left : map view l.list.items ++ types_json (drop l.place l.entries) (drop l.place l.patterns) ≡ types_json l.entries l.patterns;
  small : AreSmall (drop l.place l.entries) → AreSmall l.entries;
}
