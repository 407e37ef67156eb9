use Rattle.std.proofs.Common.{◌≡◌, ◌*◌, ◌^◌, ◌-◌, ◌≤◌, length}
use Rattle.fixed_decimal_unsigned.specs.NumberText.{AreDigits, spelled}
use Rattle.fixed_decimal_unsigned.proofs.reading.without_end_zeros.Given as goal

abbrev pub invariant-loop-last : goal.invariant-loop-last
invariant-loop-last l = record {
  digits : AreDigits l.kept;
  within : length l.kept ≤ length l.text;
  value : spelled l.text ≡ spelled l.kept * 10 ^ (length l.text - length l.kept);
}

abbrev pub decreases-loop-last : goal.decreases-loop-last
decreases-loop-last l = length l.kept
