use Rattle.icu_dimension_lenient.proofs.UnitLawLemmas.{lenient_unit_is_typed, lenient_unit_misses, unit_ways_agree}
use Rattle.icu_dimension_lenient.proofs.laws.lenient_reading_agrees.Goals as goal

pub returns-clause-typed : goal.returns-clause-typed
returns-clause-typed c = lenient_unit_is_typed

pub returns-clause-agree : goal.returns-clause-agree
returns-clause-agree c = unit_ways_agree

pub returns-clause-misses : goal.returns-clause-misses
returns-clause-misses c = lenient_unit_misses
