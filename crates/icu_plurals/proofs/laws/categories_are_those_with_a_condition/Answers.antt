use Rattle.icu_plurals.proofs.FirstLemmas.{one_of_them}
use Rattle.icu_plurals.proofs.TimesLemmas.{had_times}
use Rattle.icu_plurals.proofs.laws.categories_are_those_with_a_condition.Goals as goal

pub returns-clause-each : goal.returns-clause-each
returns-clause-each c = had_times

pub returns-clause-among : goal.returns-clause-among
returns-clause-among c = one_of_them
