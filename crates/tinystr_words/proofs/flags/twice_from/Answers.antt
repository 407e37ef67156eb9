use Rattle.tinystr_words.proofs.PartLaws.{twice_from_word}
use Rattle.tinystr_words.proofs.flags.twice_from.Goals as goal

pub returns : goal.returns
returns c = twice_from_word c.args.low c.from.result c.args.word c.requires.low c.requires.fits c.requires.part c.from.ensures c.requires.ascii
