use Rattle.locale_numbers.proofs.LenientUnitTrips.{each_unit_grouping}
use Rattle.locale_numbers.proofs.laws.each_unit_grouping_is_read_leniently.Goals as goal

pub returns : goal.returns
returns c =
    each_unit_grouping c.found_units_are_texts.ensures c.functions_answer_readings.ensures.exact c.functions_answer_readings.ensures.lenient
    c.each_unit_grouping_is_lenient.ensures.lenient c.own_unit_texts_are_of_the_first.ensures
