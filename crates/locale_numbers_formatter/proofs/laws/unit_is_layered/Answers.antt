use Rattle.locale_numbers_formatter.proofs.UnitLayerLemmas.{unit_parts_are}
use Rattle.locale_numbers_formatter.proofs.laws.unit_is_layered.Goals as goal

pub returns-clause-parts : goal.returns-clause-parts
returns-clause-parts c = unit_parts_are
