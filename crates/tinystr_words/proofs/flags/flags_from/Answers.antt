use Rattle.std.proofs.Common.{arith}
use Rattle.tinystr_words.proofs.FlagLaws.{flags_from_word, word_below}
use Rattle.tinystr_words.proofs.flags.flags_from.Goals as goal

pub overflow_add-result : goal.overflow_add-result
overflow_add-result c = record { fits = omega (arith, word_below c.args.word c.ranges.word.fits c.requires.ascii, c.from.ensures) }

pub returns : goal.returns
returns c = flags_from_word c.args.low c.from.result c.args.word c.requires.low c.ranges.word.fits c.from.ensures c.requires.ascii
