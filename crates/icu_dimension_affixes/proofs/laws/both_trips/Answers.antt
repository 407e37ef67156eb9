use Rattle.icu_dimension_affixes.proofs.UnitReadingLemmas.{one_unit_reading, read_unit_is_written_again, written_unit_reads_back}
use Rattle.icu_dimension_affixes.proofs.laws.both_trips.Goals as goal

pub returns : goal.returns
returns c = record { one = one_unit_reading; back = written_unit_reads_back; again = read_unit_is_written_again }
