use Rattle.locale_numbers_answers.proofs.RoundedLemmas.{one_rounding}
use Rattle.locale_numbers_answers.proofs.laws.roundings_have_one_end.Goals as goal

pub returns : goal.returns
returns c = one_rounding
