use Rattle.std.proofs.Common.{◌≡◌, ◌+◌, ◌-◌, ◌≤◌, ◌++◌, drop, length, take}
use Rattle.icu_decimal_direct.proofs.putting.put_bytes.Given as goal

abbrev pub invariant-loop-at : goal.invariant-loop-at
invariant-loop-at g l = record {
  at : l.at ≤ length l.bytes;
  long : length l.out ≡ length l.initial.out;
  text : take (l.len + l.at) l.out ++ drop l.at l.bytes ≡ take l.len l.initial.out ++ l.bytes;
}

abbrev pub decreases-loop-at : goal.decreases-loop-at
decreases-loop-at g l = length l.bytes - l.at
