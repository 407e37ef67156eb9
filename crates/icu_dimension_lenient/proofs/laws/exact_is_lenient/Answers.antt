use Rattle.icu_dimension_lenient.proofs.UnitLawLemmas.{exact_unit_is_lenient, written_unit_reads_leniently}
use Rattle.icu_dimension_lenient.proofs.laws.exact_is_lenient.Goals as goal

pub returns-clause-exact : goal.returns-clause-exact
returns-clause-exact c = exact_unit_is_lenient

pub returns-clause-written : goal.returns-clause-written
returns-clause-written c = written_unit_reads_leniently
