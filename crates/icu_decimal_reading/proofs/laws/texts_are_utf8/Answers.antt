use Rattle.icu_decimal_reading.proofs.PlainLemmas.{decimal_utf8}
use Rattle.icu_decimal_reading.proofs.laws.texts_are_utf8.Goals as goal

pub returns : goal.returns
returns c = decimal_utf8
