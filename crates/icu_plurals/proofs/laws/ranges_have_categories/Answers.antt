use Rattle.icu_plurals.proofs.TimesLemmas.{range_is_one}
use Rattle.icu_plurals.proofs.laws.ranges_have_categories.Goals as goal

pub returns : goal.returns
returns c = range_is_one
