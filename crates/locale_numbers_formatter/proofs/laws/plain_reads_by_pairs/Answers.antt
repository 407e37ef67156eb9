use Rattle.locale_numbers_formatter.proofs.PairLemmas.{by_pairs}
use Rattle.locale_numbers_formatter.proofs.laws.plain_reads_by_pairs.Goals as goal

pub returns : goal.returns
returns c = by_pairs c.plain_reading_is_the_reading.ensures c.functions_answer_readings.ensures.exact
