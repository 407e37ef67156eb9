use Rattle.locale_numbers_units.proofs.UnitTextLemmas.{units_texts}
use Rattle.locale_numbers_units.proofs.laws.units_are_texts.Goals as goal

pub returns : goal.returns
returns c = units_texts
