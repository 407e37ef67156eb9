use Rattle.locale_numbers_words.proofs.CutLemmas.{cut_found}
use Rattle.locale_numbers_words.proofs.cuts.cut_at.Goals as goal

pub returns : goal.returns
returns c = cut_found c.args.needle.now c.args.text.now c.split_once.result c.requires c.split_once.ensures.cases
