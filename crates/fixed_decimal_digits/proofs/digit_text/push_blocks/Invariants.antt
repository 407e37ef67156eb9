use Rattle.std.proofs.Common.{◌≡◌, ◌+◌, ◌%◌, ◌≤◌, ◌++◌, length, map}
use Rattle.std.specs.Char.{digit_value}
use Rattle.fixed_decimal_digit_words.specs.DigitText.{AreDigits}
use Rattle.fixed_decimal_digits.proofs.digit_text.push_blocks.Given as goal

abbrev pub invariant-loop-rest : goal.invariant-loop-rest
invariant-loop-rest l = record {
  digits : AreDigits l.rest;
  items : l.digits.items ++ map digit_value l.rest ≡ l.initial.digits.items ++ map digit_value l.text;
  room : length l.digits.items + length l.rest ≤ l.digits.capacity;
  even : length l.digits.items % 2 ≡ 0;
  capacity : l.initial.digits.capacity ≤ l.digits.capacity;
}

abbrev pub decreases-loop-rest : goal.decreases-loop-rest
decreases-loop-rest l = length l.rest
