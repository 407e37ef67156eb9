use Rattle.locale_numbers_units.proofs.units.Units.digits.Goals as goal

pub returns : goal.returns
returns c = rw (← c.self.view_is) c.get.ensures.value
