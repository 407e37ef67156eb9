use Rattle.std.proofs.Common.{◌≡◌, ◌-◌, ◌*◌, ◌≤◌, ◌++◌, length, map, take, drop}
use Rattle.std.specs.Char.{digit_value}
use Rattle.fixed_decimal_digit_words.specs.Packed.{packed}
use Rattle.fixed_decimal_digit_words.proofs.digit_blocks.bytes_of_block.Given as goal

abbrev pub invariant-loop-index : goal.invariant-loop-index
invariant-loop-index l = record {
  within : 2 * l.index ≤ length l.text;
  size : length l.bytes ≡ 32;
  bytes : take l.index l.bytes ++ packed (map digit_value (drop (2 * l.index) l.text)) ≡ packed (map digit_value l.text);
}

abbrev pub decreases-loop-index : goal.decreases-loop-index
decreases-loop-index l = length l.text - l.index
