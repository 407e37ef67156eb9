use Rattle.icu_decimal_lenient.proofs.GroupingLemmas.{two_groupings}
use Rattle.icu_decimal_lenient.proofs.laws.two_groupings_are_enough.Goals as goal

pub returns : goal.returns
returns c = two_groupings
