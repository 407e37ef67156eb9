use Rattle.std.proofs.Common.{◌≡◌, ◌+◌, ◌-◌, ◌*◌, ◌≤◌, ◌++◌, [], ◌∷◌, drop, length, replicate, take}
use Rattle.icu_decimal_plain.specs.LaterGroups.{groups_ahead}
use Rattle.icu_decimal_plain.specs.Runs.{run_text}
use Rattle.icu_decimal_plain.proofs.runs.put_threes.Given as goal

abbrev pub invariant-loop-at : goal.invariant-loop-at
invariant-loop-at g l = record {
  at : l.at ≤ l.groups;
  long : length l.waiting ≡ length l.initial.waiting;
  text : take (l.len + 4 * l.at) l.waiting ++ groups_ahead (l.separator ∷ []) (run_text l.nought) (replicate (l.groups - l.at) 3) (drop (3 * l.at) l.digits) ≡ take l.len l.initial.waiting ++ groups_ahead (l.separator ∷ []) (run_text l.nought) (replicate l.groups 3) l.digits;
}

abbrev pub decreases-loop-at : goal.decreases-loop-at
decreases-loop-at g l = l.groups - l.at
