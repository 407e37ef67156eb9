use Rattle.std.proofs.Common.{◌≡◌, ◌+◌, ◌-◌, ◌*◌, ◌≤◌, ◌++◌, [], ◌∷◌, drop, length, replicate, take}
use Rattle.icu_decimal_plain.specs.LaterGroups.{groups_ahead}
use Rattle.icu_decimal_plain.specs.Runs.{byte_text}
use Rattle.icu_decimal_direct.proofs.putting.put_byte_threes.Given as goal

abbrev pub invariant-loop-at : goal.invariant-loop-at
invariant-loop-at g l = record {
  at : l.at ≤ l.groups;
  long : length l.out ≡ length l.initial.out;
  text : take (l.len + 4 * l.at) l.out ++ groups_ahead (l.separator ∷ []) byte_text (replicate (l.groups - l.at) 3) (drop (3 * l.at) l.bytes) ≡ take l.len l.initial.out ++ groups_ahead (l.separator ∷ []) byte_text (replicate l.groups 3) l.bytes;
}

abbrev pub decreases-loop-at : goal.decreases-loop-at
decreases-loop-at g l = l.groups - l.at
