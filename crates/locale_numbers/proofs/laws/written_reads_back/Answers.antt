use Rattle.locale_numbers.proofs.ReadingTrips.{reads_back}
use Rattle.locale_numbers.proofs.laws.written_reads_back.Goals as goal

pub returns : goal.returns
returns c = reads_back c.plain_reads_by_pairs.ensures c.both_trips.ensures.back
