use Rattle.icu_decimal_scientific.proofs.FormLawLemmas.{form_is_normal}
use Rattle.icu_decimal_scientific.proofs.laws.scientific_is_normal.Goals as goal

pub returns : goal.returns
returns c = form_is_normal
