use Rattle.fixed_decimal.proofs.ScientificTextLemmas.{scientific_printed, scientific_equal}
use Rattle.fixed_decimal.proofs.laws.printed_scientifics_read_back.Goals as goal

pub returns : goal.returns
returns c = record { back = scientific_printed; equal = scientific_equal }
