use Rattle.icu_decimal_scientific.proofs.FormOfLemmas.{carried_is_normal, unchanged_is_form}
use Rattle.icu_decimal_scientific.proofs.laws.carried_is_normal.Goals as goal

pub returns : goal.returns
returns c = record { normal = carried_is_normal; unchanged = unchanged_is_form }
