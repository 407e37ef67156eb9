use Rattle.locale_numbers_parents.proofs.ParentsLemmas.{are_met}
use Rattle.locale_numbers_parents.proofs.laws.cycles_are_met.Goals as goal

pub returns : goal.returns
returns c = are_met
