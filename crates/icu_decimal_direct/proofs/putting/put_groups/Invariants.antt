use Rattle.std.proofs.Common.{◌≡◌, ◌+◌, ◌*◌, ◌≤◌, ◌++◌, length, replicate, take}
use Rattle.icu_decimal_plain.specs.LaterGroups.{groups_ahead}
use Rattle.icu_decimal_plain.specs.Runs.{byte_text}
use Rattle.icu_decimal_direct.proofs.putting.put_groups.Given as goal

abbrev pub invariant-loop-left : goal.invariant-loop-left
invariant-loop-left g l = record {
  left : l.left ≤ l.groups;
  enough : l.left * l.size ≤ length l.ahead;
  room : l.end + 4 * l.left + l.left * l.size ≤ l.len + 4 * l.groups + l.groups * l.size;
  text : take l.end l.out ++ groups_ahead l.separator byte_text (replicate l.left l.size) l.ahead ≡ take l.len l.initial.out ++ groups_ahead l.separator byte_text (replicate l.groups l.size) l.bytes;
}

abbrev pub decreases-loop-left : goal.decreases-loop-left
decreases-loop-left g l = l.left
