use Rattle.std.proofs.Common.{◌≤◌, ◌-◌, length, take}
use Rattle.fixed_decimal.specs.NumberText.{AreDigits}
use Rattle.icu_decimal_direct.proofs.reading.digits_from.Given as goal

abbrev pub invariant-loop-count : goal.invariant-loop-count
invariant-loop-count l = record {
  within : l.count ≤ length l.text;
  digits : AreDigits (take l.count l.text);
}

abbrev pub decreases-loop-count : goal.decreases-loop-count
decreases-loop-count l = length l.text - l.count
