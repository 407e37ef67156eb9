use Rattle.fixed_decimal_digit_words.proofs.CutWordLemmas.{front_counted, zero_cut}
use Rattle.fixed_decimal_digit_words.proofs.digit_words.cut_word.Goals as goal

pub loop-count-init : goal.loop-count-init
loop-count-init c = front_counted c.args.word c.ranges.word.fits c.requires

pub loop-count-preserved : goal.loop-count-preserved
loop-count-preserved c =
    let l = c.loop-count in
    zero_cut c.args.word l.left l.count l.zeros l.invariant c.loop-count-test.true c.if-left-eq0.true
