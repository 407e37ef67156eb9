use Rattle.icu_decimal_reading.proofs.LawLemmas.{reads_back, written_again}
use Rattle.icu_decimal_reading.proofs.laws.both_trips.Goals as goal

pub returns-clause-back : goal.returns-clause-back
returns-clause-back c = reads_back

pub returns-clause-again : goal.returns-clause-again
returns-clause-again c = written_again
