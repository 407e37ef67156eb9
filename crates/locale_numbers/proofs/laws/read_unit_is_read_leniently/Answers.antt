use Rattle.locale_numbers.proofs.LenientUnitTrips.{read_unit_is_lenient}
use Rattle.locale_numbers.proofs.laws.read_unit_is_read_leniently.Goals as goal

pub returns : goal.returns
returns c = read_unit_is_lenient
