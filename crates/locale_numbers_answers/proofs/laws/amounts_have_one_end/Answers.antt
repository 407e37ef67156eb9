use Rattle.locale_numbers_answers.proofs.AmountLemmas.{one_amount}
use Rattle.locale_numbers_answers.proofs.laws.amounts_have_one_end.Goals as goal

pub returns : goal.returns
returns c = one_amount
