use Rattle.tinystr_words.specs.Words.{word_bytes}
use Rattle.tinystr_words.proofs.PartLaws.{twice_between}
use Rattle.tinystr_words.proofs.flags.twice_within.Goals as goal

pub returns : goal.returns
returns c =
    twice_between c.args.low c.args.high c.twice_from.result c.twice_from-2.result (word_bytes c.args.word) c.requires.order c.requires.ascii
    c.twice_from.ensures c.twice_from-2.ensures
