use Rattle.fixed_decimal.proofs.SignedEqualityLemmas.{decimal_equality}
use Rattle.fixed_decimal.proofs.laws.decimal_equality_is_that_of_texts.Goals as goal

pub returns : goal.returns
returns c = decimal_equality
