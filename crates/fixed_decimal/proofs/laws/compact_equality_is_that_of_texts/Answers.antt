use Rattle.fixed_decimal.proofs.SignedEqualityLemmas.{compact_equality}
use Rattle.fixed_decimal.proofs.laws.compact_equality_is_that_of_texts.Goals as goal

pub returns : goal.returns
returns c = compact_equality
