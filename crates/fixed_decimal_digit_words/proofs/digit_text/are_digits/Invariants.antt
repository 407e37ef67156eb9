use Rattle.std.proofs.Common.{IsTrue, take}
use Rattle.fixed_decimal_digit_words.specs.DigitText.{AreDigits}
use Rattle.fixed_decimal_digit_words.proofs.digit_text.are_digits.Given as goal

abbrev pub invariant-loop-c : goal.invariant-loop-c
invariant-loop-c l = IsTrue l.all → AreDigits (take l.c-index l.text)
