use Rattle.icu_decimal_scientific.proofs.CutLemmas.{cut_some}
use Rattle.icu_decimal_scientific.proofs.reader.cut_at.Goals as goal

pub returns-clause-some : goal.returns-clause-some
returns-clause-some c = cut_some c.args.mark c.args.text.now c.split_once.result c.split_once.ensures.cases
