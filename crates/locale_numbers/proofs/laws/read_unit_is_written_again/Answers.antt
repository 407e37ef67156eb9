use Rattle.locale_numbers.proofs.UnitTrips.{read_unit_again}
use Rattle.locale_numbers.proofs.laws.read_unit_is_written_again.Goals as goal

pub returns : goal.returns
returns c = read_unit_again c.found_units_are_texts.ensures c.functions_answer_readings.ensures.exact c.texts_have_one_decimal.ensures.written
