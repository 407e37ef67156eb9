use Rattle.fixed_decimal_digit_words.proofs.DigitTextLemmas.{digits_told}
use Rattle.fixed_decimal_digit_words.proofs.digit_text.are_digits.Goals as goal

pub loop-c-preserved : goal.loop-c-preserved
loop-c-preserved c = λ h. digits_told c.args.text.now c.loop-c.c-index c.loop-c.all c.is_ascii_digit-all.result c.loop-c-test.true c.loop-c.invariant c.is_ascii_digit-all.ensures.bound h
