use Rattle.std.proofs.Common.{◌≡◌, ◌+◌, ◌-◌, ◌≤◌, ◌++◌, drop, length, map, take}
use Rattle.icu_decimal_plain.specs.PlainText.{chained}
use Rattle.icu_decimal_plain.specs.Runs.{run_text}
use Rattle.icu_decimal_plain.proofs.runs.put_run.Given as goal

abbrev pub invariant-loop-at : goal.invariant-loop-at
invariant-loop-at g l = record {
  at : l.at ≤ length l.digits;
  long : length l.waiting ≡ length l.initial.waiting;
  text : take (l.len + l.at) l.waiting ++ chained (map (run_text l.nought) (drop l.at l.digits)) ≡ take l.len l.initial.waiting ++ chained (map (run_text l.nought) l.digits);
}

abbrev pub decreases-loop-at : goal.decreases-loop-at
decreases-loop-at g l = length l.digits - l.at
