use Rattle.fixed_decimal_digit_words.proofs.NumberWordLemmas.{spells_wide, spells_halves}
use Rattle.std.proofs.Common.{refl}
use Rattle.fixed_decimal_digit_words.proofs.digit_words.word_of_number.Goals as goal

pub returns-then-number-lt10000 : goal.returns-then-number-lt10000
returns-then-number-lt10000 c = spells_wide 12 c.word_of_four.result 4 c.args.number c.word_of_four.ensures

pub returns-then-number-lt100000000 : goal.returns-then-number-lt100000000
returns-then-number-lt100000000 c = spells_wide 8 c.word_of_eight.result 8 c.args.number c.word_of_eight.ensures

pub returns : goal.returns
returns c = spells_halves 8 4294967296 100000000 c.args.number c.word_of_eight-2.result c.word_of_eight-3.result refl refl c.word_of_eight-2.ensures c.word_of_eight-3.ensures
