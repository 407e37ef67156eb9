use Rattle.tinystr.proofs.LawLemmas.{joins_alike_law}
use Rattle.tinystr.proofs.laws.joins_alike.Goals as goal

pub returns : goal.returns
returns c = joins_alike_law
