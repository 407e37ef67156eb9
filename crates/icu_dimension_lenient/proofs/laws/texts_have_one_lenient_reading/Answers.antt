use Rattle.icu_dimension_lenient.proofs.UnitLawLemmas.{one_lenient_unit_reading}
use Rattle.icu_dimension_lenient.proofs.laws.texts_have_one_lenient_reading.Goals as goal

pub returns : goal.returns
returns c = one_lenient_unit_reading
