use Rattle.icu_decimal_reading.proofs.LawLemmas.{one_decimal}
use Rattle.icu_decimal_reading.proofs.laws.texts_have_one_decimal.Goals as goal

pub returns : goal.returns
returns c = one_decimal
