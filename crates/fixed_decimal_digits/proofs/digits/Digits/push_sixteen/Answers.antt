use Rattle.std.proofs.Common.{◌%◌, ◌++◌, ap, ◌∙◌}
use Rattle.fixed_decimal_digit_words.specs.DigitWord.{word_digits}
use Rattle.fixed_decimal_digits.proofs.LongNumberLemmas.{pushed_sixteen}
use Rattle.fixed_decimal_digits.proofs.digits.Digits.push_sixteen.Goals as goal

pub returns-else-len-eq0 : goal.returns-else-len-eq0
returns-else-len-eq0 c = record {
  items = c.push_fifteen.ensures.items ∙ ap (λ xs. xs ++ word_digits (c.args.word % 1152921504606846976) 15) c.push_reserved.ensures.items ∙ pushed_sixteen c.args.self.now.items c.args.word c.ranges.word.fits;
}
