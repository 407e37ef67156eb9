use Rattle.locale_numbers_parents.proofs.ParentsLemmas.{cuts_none}
use Rattle.locale_numbers_parents.proofs.parents.Parents.chain_limit.Goals as goal

pub returns-clause-cuts_none : goal.returns-clause-cuts_none
returns-clause-cuts_none c = rw (← c.self.view_is, c.len.ensures.len) (cuts_none _ c.self.invariant)
