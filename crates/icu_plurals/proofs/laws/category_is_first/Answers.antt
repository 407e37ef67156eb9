use Rattle.icu_plurals.proofs.FirstLemmas.{is_category, one_category, other_of_none}
use Rattle.icu_plurals.proofs.laws.category_is_first.Goals as goal

pub returns-clause-first : goal.returns-clause-first
returns-clause-first c = λ rules o category. (one_category rules o category, is_category rules o category)

pub returns-clause-other : goal.returns-clause-other
returns-clause-other c = other_of_none
