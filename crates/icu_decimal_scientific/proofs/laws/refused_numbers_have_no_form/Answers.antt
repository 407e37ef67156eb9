use Rattle.icu_decimal_scientific.proofs.FormLawLemmas.{beyond_has_no_form}
use Rattle.icu_decimal_scientific.proofs.laws.refused_numbers_have_no_form.Goals as goal

pub returns : goal.returns
returns c = beyond_has_no_form
