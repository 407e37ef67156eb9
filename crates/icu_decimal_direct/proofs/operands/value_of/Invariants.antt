use Rattle.std.proofs.Common.{◌≡◌, take}
use Rattle.fixed_decimal.specs.NumberText.{spelled}
use Rattle.icu_decimal_direct.proofs.operands.value_of.Given as goal

abbrev pub invariant-loop-digit : goal.invariant-loop-digit
invariant-loop-digit l = l.value ≡ spelled (take l.digit-index l.digits)
