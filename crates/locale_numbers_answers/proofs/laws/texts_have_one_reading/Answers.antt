use Rattle.locale_numbers_answers.proofs.LawsLemmas.{one_reading}
use Rattle.locale_numbers_answers.proofs.laws.texts_have_one_reading.Goals as goal

pub returns : goal.returns
returns c = one_reading
