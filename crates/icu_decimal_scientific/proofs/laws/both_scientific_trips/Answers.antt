use Rattle.icu_decimal_scientific.proofs.ScientificReadingLemmas.{one_reading, read_is_written_again, written_is_read_back}
use Rattle.icu_decimal_scientific.proofs.laws.both_scientific_trips.Goals as goal

pub returns : goal.returns
returns c = record { one = one_reading; back = written_is_read_back; again = read_is_written_again }
