use Rattle.std.proofs.Common.{map}
use Rattle.icu_decimal_patterns.specs.KeptEntries.{NeverFalls, of_type}
use Rattle.icu_decimal_patterns.proofs.kept.never_falls.Given as goal

abbrev pub invariant-loop-log10_type : goal.invariant-loop-log10_type
invariant-loop-log10_type l =
    (NeverFalls l.least (map of_type l._log10_type-iterator) → NeverFalls 0 (map of_type l.given.entries))
    × (NeverFalls 0 (map of_type l.given.entries) → NeverFalls l.least (map of_type l._log10_type-iterator))
