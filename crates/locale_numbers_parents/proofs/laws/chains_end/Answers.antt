use Rattle.locale_numbers_parents.proofs.ParentsLemmas.{cuts_none}
use Rattle.locale_numbers_parents.proofs.laws.chains_end.Goals as goal

pub returns : goal.returns
returns c entries is l = cuts_none entries is l
