use Rattle.icu_decimal.proofs.ChoiceLemmas.{first_found_is}
use Rattle.icu_decimal.proofs.laws.tables.first_is_found.Goals as goal

pub returns : goal.returns
returns g c = first_found_is _
