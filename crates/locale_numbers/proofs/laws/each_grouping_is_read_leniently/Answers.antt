use Rattle.locale_numbers.proofs.ReadingTrips.{each_grouping_is_read}
use Rattle.locale_numbers.proofs.laws.each_grouping_is_read_leniently.Goals as goal

pub returns : goal.returns
returns c = each_grouping_is_read c.plain_reads_by_pairs.ensures
