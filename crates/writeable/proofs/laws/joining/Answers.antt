use Rattle.writeable.proofs.LawsLemmas.{joining}
use Rattle.writeable.proofs.laws.joining.Goals as goal

pub returns : goal.returns
returns c = joining
