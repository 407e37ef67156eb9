use Rattle.locale_numbers.proofs.SelectionLemmas.{selected_parents}
use Rattle.locale_numbers.proofs.laws.selected_parents_are_parents.Goals as goal

pub returns : goal.returns
returns c = selected_parents
