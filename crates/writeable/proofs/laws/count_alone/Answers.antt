use Rattle.writeable.proofs.LawsLemmas.{counted, count_refused}
use Rattle.writeable.proofs.laws.count_alone.Goals as goal

pub returns : goal.returns
returns c = record { counted = counted; refused = count_refused }
