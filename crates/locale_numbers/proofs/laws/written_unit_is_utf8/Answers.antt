use Rattle.locale_numbers.proofs.UnitTrips.{unit_is_utf8}
use Rattle.locale_numbers.proofs.laws.written_unit_is_utf8.Goals as goal

pub returns : goal.returns
returns c = unit_is_utf8 c.found_units_are_texts.ensures c.texts_are_utf8.ensures c.texts_have_one_decimal.ensures.written
