use Rattle.locale_numbers_parents.proofs.ParentsLemmas.{no_longer}
use Rattle.locale_numbers_parents.proofs.laws.chains_are_short.Goals as goal

pub returns : goal.returns
returns c entries l xs = no_longer entries l xs
