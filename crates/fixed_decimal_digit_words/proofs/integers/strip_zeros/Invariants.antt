use Rattle.std.proofs.Common.{◌≡◌, ◌*◌, ◌^◌, ◌<◌}
use Rattle.fixed_decimal_digit_words.proofs.integers.strip_zeros.Given as goal

abbrev pub invariant-loop-left : goal.invariant-loop-left
invariant-loop-left l = record {
  some : 0 < l.left;
  value : l.number ≡ l.left * 10 ^ l.zeros;
}

abbrev pub decreases-loop-left : goal.decreases-loop-left
decreases-loop-left l = l.left
