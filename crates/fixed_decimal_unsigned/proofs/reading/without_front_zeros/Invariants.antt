use Rattle.std.proofs.Common.{◌≡◌, ◌≤◌, length}
use Rattle.fixed_decimal_unsigned.specs.NumberText.{AreDigits, spelled}
use Rattle.fixed_decimal_unsigned.proofs.reading.without_front_zeros.Given as goal

abbrev pub invariant-loop-first : goal.invariant-loop-first
invariant-loop-first l = record {
  digits : AreDigits l.kept;
  within : length l.kept ≤ length l.text;
  value : spelled l.text ≡ spelled l.kept;
}

abbrev pub decreases-loop-first : goal.decreases-loop-first
decreases-loop-first l = length l.kept
