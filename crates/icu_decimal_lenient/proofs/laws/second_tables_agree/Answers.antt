use Rattle.icu_decimal_lenient.proofs.AgreementLemmas.{ambiguous_is_not_written, both_miss, second_leaves_first, second_reads_rest}
use Rattle.icu_decimal_lenient.proofs.laws.second_tables_agree.Goals as goal

pub returns-clause-first : goal.returns-clause-first
returns-clause-first c = second_leaves_first

pub returns-clause-rest : goal.returns-clause-rest
returns-clause-rest c = second_reads_rest

pub returns-clause-ambiguous : goal.returns-clause-ambiguous
returns-clause-ambiguous c = ambiguous_is_not_written

pub returns-clause-none : goal.returns-clause-none
returns-clause-none c = both_miss
