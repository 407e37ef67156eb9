use Rattle.icu_decimal_scientific.proofs.FormLawLemmas.{one_number}
use Rattle.icu_decimal_scientific.proofs.laws.scientific_is_the_number.Goals as goal

pub returns-clause-one : goal.returns-clause-one
returns-clause-one c = one_number
