use Rattle.std.proofs.Common.{◌+◌, ◌-◌, ◌≤◌, length}
use Rattle.icu_decimal_reading.proofs.likely_bytes.put_threes.Given as goal

abbrev pub invariant-loop-at : goal.invariant-loop-at
invariant-loop-at l = record {
  behind : l.to + 3 ≤ l.initial.to + l.at;
  past : l.at ≤ length l.groups + 3;
  third : 3 ≤ l.at;
}

abbrev pub decreases-loop-at : goal.decreases-loop-at
decreases-loop-at l = length l.groups - l.at
