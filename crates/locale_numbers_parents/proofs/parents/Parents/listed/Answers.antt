use Rattle.locale_numbers_parents.proofs.parents.Parents.listed.Goals as goal

pub returns : goal.returns
returns c = rw (← c.self.view_is) c.get.ensures.value
