use Rattle.fixed_decimal.proofs.SignedEqualityLemmas.{scientific_equality}
use Rattle.fixed_decimal.proofs.laws.scientific_equality_is_that_of_texts.Goals as goal

pub returns : goal.returns
returns c = scientific_equality
