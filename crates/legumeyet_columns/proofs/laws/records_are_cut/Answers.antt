use Rattle.legumeyet_columns.proofs.GrammarLemmas.{records_cut}
use Rattle.legumeyet_columns.proofs.laws.records_are_cut.Goals as goal

pub returns : goal.returns
returns c = records_cut
