use Rattle.locale_numbers.proofs.UnitTrips.{unit_reads_back}
use Rattle.locale_numbers.proofs.laws.written_unit_reads_back.Goals as goal

pub returns : goal.returns
returns c = unit_reads_back c.found_units_are_texts.ensures c.functions_answer_readings.ensures.exact c.texts_have_one_decimal.ensures.written
