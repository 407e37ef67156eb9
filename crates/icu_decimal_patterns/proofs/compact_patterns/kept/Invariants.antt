use Rattle.std.proofs.Common.{◌≡◌, ◌++◌, map}
use Rattle.icu_decimal_patterns.specs.KeptEntries.{entry_in, of_type}
use Rattle.icu_decimal_patterns.specs.KeptSteps.{base_after, base_of, kept_of}
use Rattle.icu_decimal_patterns.proofs.compact_patterns.kept.Given as goal

abbrev pub invariant-loop-log10_type : goal.invariant-loop-log10_type
invariant-loop-log10_type l =
    (l.entries.items ++ map entry_in (kept_of (base_after (base_of l.zero) l.patterns.items) (map of_type l.log10_type-iterator))
    ≡ map entry_in (kept_of (base_of l.zero) (map of_type l.fn.given.entries)))
    × (l.patterns.items ++ map (λ x. x.patterns) (kept_of (base_after (base_of l.zero) l.patterns.items) (map of_type l.log10_type-iterator))
    ≡ map (λ x. x.patterns) (kept_of (base_of l.zero) (map of_type l.fn.given.entries)))
