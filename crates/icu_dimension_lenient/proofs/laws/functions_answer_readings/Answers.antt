use Rattle.icu_dimension_lenient.proofs.NativeUnitLemmas.{one_by_function}
use Rattle.icu_dimension_lenient.proofs.UnitReadingsLemmas.{one_unit}
use Rattle.icu_dimension_lenient.proofs.laws.functions_answer_readings.Goals as goal

pub returns-clause-exact : goal.returns-clause-exact
returns-clause-exact c = one_unit

pub returns-clause-lenient : goal.returns-clause-lenient
returns-clause-lenient c = one_by_function
