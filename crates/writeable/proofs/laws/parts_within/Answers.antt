use Rattle.writeable.proofs.LawsLemmas.{parts_within}
use Rattle.writeable.proofs.laws.parts_within.Goals as goal

pub returns : goal.returns
returns c = parts_within
