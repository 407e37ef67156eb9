use Rattle.locale_numbers_plurals.proofs.plurals.Plurals.ranges.Goals as goal

pub returns : goal.returns
returns c = rw (← c.self.view_is) c.get.ensures.value
