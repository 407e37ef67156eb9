use Rattle.std.proofs.Common.{◌≡◌, ◌+◌, ◌-◌, ◌≤◌}
use Rattle.icu_decimal_plurals.specs.Operands.{part_of}
use Rattle.icu_decimal_plurals.proofs.operands.part_of.Given as goal

abbrev pub invariant-loop-left : goal.invariant-loop-left
invariant-loop-left l = (l.left ≤ l.places) × (l.part ≡ part_of l.number.count (l.place + l.left) (l.places - l.left))

abbrev pub decreases-loop-left : goal.decreases-loop-left
decreases-loop-left l = l.left
