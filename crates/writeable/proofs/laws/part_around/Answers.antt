use Rattle.writeable.proofs.BalancedLemmas.{part_around}
use Rattle.writeable.proofs.laws.part_around.Goals as goal

pub returns : goal.returns
returns c = part_around
