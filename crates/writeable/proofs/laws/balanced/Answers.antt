use Rattle.writeable.proofs.BalancedLemmas.{balanced_none, balanced_text, balanced_append, balanced_part}
use Rattle.writeable.proofs.laws.balanced.Goals as goal

pub returns : goal.returns
returns c = record { none = balanced_none; text = balanced_text; append = balanced_append; part = balanced_part }
