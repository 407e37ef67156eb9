use Rattle.fixed_decimal.proofs.ScientificTextLemmas.{scientific_reads_once}
use Rattle.fixed_decimal.proofs.laws.scientific_texts_read_once.Goals as goal

pub returns : goal.returns
returns c = scientific_reads_once
