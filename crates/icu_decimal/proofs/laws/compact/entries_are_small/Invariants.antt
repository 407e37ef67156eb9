use Rattle.std.proofs.Common.{drop}
use Rattle.icu_decimal_patterns.specs.SmallEntries.{AreSmall}
use Rattle.icu_decimal.proofs.laws.compact.entries_are_small.Given as goal

abbrev pub invariant-loop-entry : goal.invariant-loop-entry
invariant-loop-entry l = AreSmall (drop l.entry-index l.entries) → AreSmall l.entries
