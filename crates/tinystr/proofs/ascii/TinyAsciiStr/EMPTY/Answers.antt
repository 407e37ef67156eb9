use Rattle.tinystr.proofs.SmallTextLemmas.{IsForm-nuls}
use Rattle.tinystr.proofs.ascii.TinyAsciiStr.EMPTY.Goals as goal

pub invariant_of-result : goal.invariant_of-result
invariant_of-result g c = IsForm-nuls g.row.N
