use Rattle.fixed_decimal_unsigned.proofs.EqualityLemmas.{equal_decides, texts_decide}
use Rattle.fixed_decimal_unsigned.proofs.laws.equality_is_that_of_texts.Goals as goal

pub returns-clause-numbers : goal.returns-clause-numbers
returns-clause-numbers c = equal_decides

pub returns-clause-texts : goal.returns-clause-texts
returns-clause-texts c = texts_decide
