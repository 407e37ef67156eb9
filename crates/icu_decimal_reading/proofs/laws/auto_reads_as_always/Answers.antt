use Rattle.icu_decimal_reading.proofs.LawLemmas.{auto_is_always}
use Rattle.icu_decimal_reading.proofs.laws.auto_reads_as_always.Goals as goal

pub returns : goal.returns
returns c = auto_is_always
