use Rattle.std.proofs.Common.{◌≡◌, ◌-◌, ◌^◌, ◌<◌, ◌≤◌, length, take}
use Rattle.std.specs.Str.Parse.{digits_value_after}
use Rattle.fixed_decimal_digit_words.specs.DigitText.{AreDigits}
use Rattle.fixed_decimal_digit_words.proofs.digit_words.word_behind.Given as goal

abbrev pub invariant-loop-count : goal.invariant-loop-count
invariant-loop-count l = record {
  within : l.count ≤ length l.text;
  digits : AreDigits (take l.count l.text);
  room : l.after < 16 ^ (16 - (length l.text - l.count));
  word : l.after ≡ digits_value_after 16 l.word (take l.count l.text);
}

abbrev pub decreases-loop-count : goal.decreases-loop-count
decreases-loop-count l = length l.text - l.count
