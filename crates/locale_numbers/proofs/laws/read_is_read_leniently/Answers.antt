use Rattle.locale_numbers.proofs.ReadingTrips.{read_is_lenient}
use Rattle.locale_numbers.proofs.laws.read_is_read_leniently.Goals as goal

pub returns : goal.returns
returns c = read_is_lenient c.plain_reads_by_pairs.ensures
