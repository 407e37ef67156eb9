use Rattle.locale_numbers_words.proofs.UnitsLemmas.{unit_found}
use Rattle.locale_numbers_words.proofs.unit_words.UnitTable.get.Goals as goal

pub returns-in-Some : goal.returns-in-Some
returns-in-Some c = rw (← c.self.view_is) (unit_found c.args.unit.now c.in-Some.name _ _ c.in-Some.ensures c.get.ensures.value)
