use Rattle.legumeyet_columns.proofs.GrammarLemmas.{fields_whole}
use Rattle.legumeyet_columns.proofs.laws.fields_are_the_pieces.Goals as goal

pub returns : goal.returns
returns c = fields_whole
