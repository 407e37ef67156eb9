use Rattle.icu_dimension_lenient.proofs.GroupedUnitLemmas.{unit_groupings_one}
use Rattle.icu_dimension_lenient.proofs.laws.unit_groupings_have_one_decimal.Goals as goal

pub returns : goal.returns
returns c = unit_groupings_one
