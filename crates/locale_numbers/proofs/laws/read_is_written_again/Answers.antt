use Rattle.locale_numbers.proofs.ReadingTrips.{read_again}
use Rattle.locale_numbers.proofs.laws.read_is_written_again.Goals as goal

pub returns : goal.returns
returns c = read_again c.plain_reads_by_pairs.ensures c.plain_reading_is_the_reading.ensures c.both_trips.ensures.again
