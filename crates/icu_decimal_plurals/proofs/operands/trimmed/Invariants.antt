use Rattle.std.proofs.Common.{◌≡◌}
use Rattle.icu_decimal_plurals.specs.Operands.{trimmed}
use Rattle.icu_decimal_plurals.proofs.operands.trimmed.Given as goal

abbrev pub invariant-loop-left : goal.invariant-loop-left
invariant-loop-left l = trimmed l.left l.rest ≡ trimmed l.count l.digits

abbrev pub decreases-loop-left : goal.decreases-loop-left
decreases-loop-left l = l.left
