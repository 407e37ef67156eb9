use Rattle.icu_decimal_lenient.proofs.LenientLemmas.{each_grouping_is_lenient, exact_is_lenient}
use Rattle.icu_decimal_lenient.proofs.laws.exact_is_lenient.Goals as goal

pub returns-clause-same : goal.returns-clause-same
returns-clause-same c = exact_is_lenient

pub returns-clause-grouped : goal.returns-clause-grouped
returns-clause-grouped c = each_grouping_is_lenient
