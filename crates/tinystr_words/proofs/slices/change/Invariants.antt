use Rattle.std.proofs.Common.{◌≡◌, ◌≤◌, ◌++◌, ◌-◌, length, map, take, drop}
use Rattle.tinystr_words.proofs.slices.change.Given as goal

abbrev pub invariant-loop-from : goal.invariant-loop-from
invariant-loop-from g l = (l.from ≤ length l.initial.bytes) × (l.bytes ≡ map g.C.WordChange.change (take l.from l.initial.bytes) ++ drop l.from l.initial.bytes)

abbrev pub decreases-loop-from : goal.decreases-loop-from
decreases-loop-from g l = length l.bytes - l.from
