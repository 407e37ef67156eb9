use Rattle.icu_decimal_patterns.proofs.OwnTableLemmas.{one_made, one_said}
use Rattle.icu_decimal_patterns.proofs.laws.tables_are_one.Goals as goal

pub returns-clause-made : goal.returns-clause-made
returns-clause-made c = one_made

pub returns-clause-said : goal.returns-clause-said
returns-clause-said c = one_said
