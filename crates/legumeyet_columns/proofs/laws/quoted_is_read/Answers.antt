use Rattle.legumeyet_columns.proofs.GrammarLemmas.{quoted_read}
use Rattle.legumeyet_columns.proofs.laws.quoted_is_read.Goals as goal

pub returns : goal.returns
returns c = quoted_read
