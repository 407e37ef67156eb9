use Rattle.std.proofs.Common.{◌≡◌, ◌+◌, ◌-◌, ◌<◌, ◌≤◌, length, drop}
use Rattle.std.specs.Int.Digits.{number_from_digits}
use Rattle.fixed_decimal_digits.proofs.cutting.first_other.Given as goal

abbrev pub invariant-loop-index : goal.invariant-loop-index
invariant-loop-index l = record {
  last : l.last + 1 ≡ length l.digits.items;
  from : l.from ≤ l.index;
  within : l.index < length l.digits.items;
  value : number_from_digits 10 (drop l.from l.digits.items) ≡ number_from_digits 10 (drop l.index l.digits.items);
}

abbrev pub decreases-loop-index : goal.decreases-loop-index
decreases-loop-index l = length l.digits.items - l.index
