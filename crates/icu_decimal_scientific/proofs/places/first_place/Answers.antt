use Rattle.icu_decimal_scientific.proofs.PlaceLemmas.{first_holds, first_reaches}
use Rattle.icu_decimal_scientific.proofs.places.first_place.Goals as goal

pub returns-clause-holds : goal.returns-clause-holds
returns-clause-holds c = first_holds c.args.number.now c.first_digit.result c.magnitude_range-number.ensures.number c.first_digit.ensures.value

pub returns-clause-reaches : goal.returns-clause-reaches
returns-clause-reaches c = first_reaches c.args.number.now c.first_digit.result c.magnitude_range-number.ensures.number c.first_digit.ensures.value
