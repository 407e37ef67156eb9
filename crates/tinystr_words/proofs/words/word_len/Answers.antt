use Rattle.tinystr_words.proofs.LengthLaws.{word_length}
use Rattle.tinystr_words.proofs.words.word_len.Goals as goal

pub returns : goal.returns
returns c = word_length c.args.word c.ranges.word.fits c.requires.last
