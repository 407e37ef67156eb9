use Rattle.icu_decimal_compact_value.proofs.NinesLemmas.{nines_of_power, power_of_nines}
use Rattle.icu_decimal_compact_value.proofs.laws.carried_at_nines.Goals as goal

pub returns : goal.returns
returns c = λ p k n a b l. (nines_of_power p k n a b l, power_of_nines p k n a b l)
