use Rattle.std.proofs.Common.{take}
use Rattle.fixed_decimal_signed.specs.NumberText.{AreDigits}
use Rattle.fixed_decimal.proofs.compact.are_digits.Given as goal

abbrev pub invariant-loop-c : goal.invariant-loop-c
invariant-loop-c l = AreDigits (take l.c-index l.text)
