use Rattle.icu_decimal_lenient.proofs.AgreementLemmas.{each_grouping_by_both, exact_by_both}
use Rattle.icu_decimal_lenient.proofs.laws.own_texts_are_read_by_both.Goals as goal

pub returns-clause-same : goal.returns-clause-same
returns-clause-same c = exact_by_both

pub returns-clause-grouped : goal.returns-clause-grouped
returns-clause-grouped c = each_grouping_by_both
