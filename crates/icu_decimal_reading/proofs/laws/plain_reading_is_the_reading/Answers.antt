use Rattle.icu_decimal_reading.proofs.LawLemmas.{one_reading}
use Rattle.icu_decimal_reading.proofs.laws.plain_reading_is_the_reading.Goals as goal

pub returns : goal.returns
returns c = one_reading
