use Rattle.std.proofs.Common.{◌≡◌, ◌+◌, ◌-◌, ◌*◌, ◌^◌, ◌<◌, ◌≤◌, take}
use Rattle.std.specs.Int.Digits.{number_from_digits}
use Rattle.fixed_decimal_digits.proofs.rounding_digits.count_before_zeros.Given as goal

abbrev pub invariant-loop-count : goal.invariant-loop-count
invariant-loop-count g l = record {
  within : l.count ≤ l.from;
  some : 0 < l.from → 0 < l.count;
  value : number_from_digits 10 (take l.from l.digits.items) ≡ number_from_digits 10 (take l.count l.digits.items) * 10 ^ (l.from - l.count);
  turns : l.turns + l.count ≡ l.initial.turns + l.from;
}

abbrev pub decreases-loop-count : goal.decreases-loop-count
decreases-loop-count g l = l.count
