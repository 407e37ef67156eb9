use Rattle.fixed_decimal_digit_words.specs.DigitWord.{IsCutWord}
use Rattle.fixed_decimal_digit_words.proofs.digit_words.cut_word.Given as goal

abbrev pub invariant-loop-count : goal.invariant-loop-count
invariant-loop-count l = IsCutWord l.word l.left l.count l.zeros

abbrev pub decreases-loop-count : goal.decreases-loop-count
decreases-loop-count l = l.count
