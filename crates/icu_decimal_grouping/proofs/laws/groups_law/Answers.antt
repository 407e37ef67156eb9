use Rattle.icu_decimal_grouping.proofs.GrouperLemmas.{groups_are_cut, groups_are_separated}
use Rattle.icu_decimal_grouping.proofs.laws.groups_law.Goals as goal

pub returns : goal.returns
returns c = record { sizes = groups_are_cut; separated = groups_are_separated }
