use Rattle.icu_dimension_lenient.proofs.GroupedUnitLemmas.{grouping_is_lenient, grouping_is_no_other, grouping_is_one_way}
use Rattle.icu_dimension_lenient.proofs.laws.each_unit_grouping_is_lenient.Goals as goal

pub returns-clause-way : goal.returns-clause-way
returns-clause-way c = grouping_is_one_way

pub returns-clause-lenient : goal.returns-clause-lenient
returns-clause-lenient c = grouping_is_lenient

pub returns-clause-other : goal.returns-clause-other
returns-clause-other c = grouping_is_no_other
