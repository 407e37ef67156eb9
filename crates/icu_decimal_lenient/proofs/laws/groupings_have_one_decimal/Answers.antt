use Rattle.icu_decimal_lenient.proofs.GroupingLemmas.{groupings_one}
use Rattle.icu_decimal_lenient.proofs.laws.groupings_have_one_decimal.Goals as goal

pub returns : goal.returns
returns c = groupings_one
