use Rattle.icu_dimension_lenient.proofs.UnitLawLemmas.{unit_may_be_left_off}
use Rattle.icu_dimension_lenient.proofs.laws.unit_may_be_left_off.Goals as goal

pub returns : goal.returns
returns c = unit_may_be_left_off
