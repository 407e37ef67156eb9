use Rattle.locale_numbers_plurals.proofs.plurals.Plurals.ordinal_rules.Goals as goal

pub returns : goal.returns
returns c = rw (← c.self.view_is) c.get.ensures.value
