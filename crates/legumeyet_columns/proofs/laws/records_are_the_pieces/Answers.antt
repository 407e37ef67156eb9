use Rattle.legumeyet_columns.proofs.GrammarLemmas.{records_whole}
use Rattle.legumeyet_columns.proofs.laws.records_are_the_pieces.Goals as goal

pub returns : goal.returns
returns c = records_whole
