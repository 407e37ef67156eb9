use Rattle.std.proofs.Common.{◌+◌, refl, arith}
use Rattle.fixed_decimal_digit_words.proofs.DigitTextLemmas.{digits_reach}
use Rattle.fixed_decimal_digit_words.proofs.digit_text.digits_in_pieces.Goals as goal

pub loop-count-preserved : goal.loop-count-preserved
loop-count-preserved c =
    let count = c.loop-count.count in
    record {
      within = omega (arith, c.loop-count-test.true, c.loop-count.invariant.within);
      digits = digits_reach c.args.text.now count (count + c.args.size) (omega arith) c.loop-count.invariant.digits (c.if-not-are_digits.ensures refl);
    }
