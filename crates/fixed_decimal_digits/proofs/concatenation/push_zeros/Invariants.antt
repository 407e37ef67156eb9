use Rattle.std.proofs.Common.{◌≡◌, ◌++◌, replicate}
use Rattle.fixed_decimal_digits.proofs.concatenation.push_zeros.Given as goal

abbrev pub invariant-loop-turn : goal.invariant-loop-turn
invariant-loop-turn l = record {
  items : l.digits.items ≡ l.initial.digits.items ++ replicate l._turn 0;
  capacity : l.digits.capacity ≡ l.initial.digits.capacity;
}
