use Rattle.std.proofs.Common.{◌≡◌, map}
use Rattle.icu_decimal_patterns.specs.KeptEntries.{first_fault, of_type}
use Rattle.icu_decimal_patterns.specs.KeptSteps.{base_of, kept_of}
use Rattle.icu_decimal_patterns.proofs.kept.first_fault.Given as goal

abbrev pub invariant-loop-log10_type : goal.invariant-loop-log10_type
invariant-loop-log10_type l =
    first_fault (kept_of (base_of l.base) (map of_type l.log10_type-iterator))
    ≡ first_fault (kept_of (base_of l.fn.zero) (map of_type l.given.entries))
