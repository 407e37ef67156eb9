use Rattle.legumeyet_columns.proofs.GrammarLemmas.{fields_cut}
use Rattle.legumeyet_columns.proofs.laws.fields_are_cut.Goals as goal

pub returns : goal.returns
returns c = fields_cut
