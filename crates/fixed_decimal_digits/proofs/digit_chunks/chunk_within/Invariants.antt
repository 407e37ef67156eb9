use Rattle.std.proofs.Common.{◌≡◌, ◌-◌, ◌*◌, ◌≤◌, ◌++◌, length, take, drop}
use Rattle.fixed_decimal_digit_words.specs.Packed.{halves}
use Rattle.fixed_decimal_digits.proofs.digit_chunks.chunk_within.Given as goal

abbrev pub invariant-loop-index : goal.invariant-loop-index
invariant-loop-index l = record {
  within : l.index ≤ 24;
  size : length l.digits ≡ 48;
  digits : take (2 * l.index) l.digits ++ halves (drop l.index l.bytes) ≡ halves l.bytes;
}

abbrev pub decreases-loop-index : goal.decreases-loop-index
decreases-loop-index l = 24 - l.index
