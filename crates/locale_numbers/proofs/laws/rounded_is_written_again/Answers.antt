use Rattle.locale_numbers.proofs.ReadingTrips.{rounded_again}
use Rattle.locale_numbers.proofs.laws.rounded_is_written_again.Goals as goal

pub returns : goal.returns
returns c = rounded_again c.plain_reads_by_pairs.ensures c.plain_reading_is_the_reading.ensures c.texts_have_one_decimal.ensures
