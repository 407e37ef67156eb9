use Rattle.std.proofs.Common.{◌≡◌, ◌++◌, take}
use Rattle.fixed_decimal_digits.proofs.concatenation.push_each.Given as goal

abbrev pub invariant-loop-index : goal.invariant-loop-index
invariant-loop-index l = record {
  items : l.digits.items ≡ l.initial.digits.items ++ take l.index l.other.items;
  capacity : l.digits.capacity ≡ l.initial.digits.capacity;
}
