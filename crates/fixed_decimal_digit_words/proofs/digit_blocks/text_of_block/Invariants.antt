use Rattle.std.proofs.Common.{◌≡◌, ◌-◌, ◌*◌, ◌≤◌, ◌++◌, length, map, take, drop}
use Rattle.fixed_decimal_digit_words.specs.DigitText.{character}
use Rattle.fixed_decimal_digit_words.specs.Packed.{halves}
use Rattle.fixed_decimal_digit_words.proofs.digit_blocks.text_of_block.Given as goal

abbrev pub invariant-loop-index : goal.invariant-loop-index
invariant-loop-index l = record {
  within : l.index ≤ 32;
  size : length l.text ≡ 64;
  text : take (2 * l.index) l.text ++ map character (halves (drop l.index l.bytes)) ≡ map character (halves l.bytes);
}

abbrev pub decreases-loop-index : goal.decreases-loop-index
decreases-loop-index l = 32 - l.index
