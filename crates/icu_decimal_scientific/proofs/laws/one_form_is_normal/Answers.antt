use Rattle.icu_decimal_scientific.proofs.FormLawLemmas.{normal_is_the_form, one_form}
use Rattle.icu_decimal_scientific.proofs.laws.one_form_is_normal.Goals as goal

pub returns-clause-one : goal.returns-clause-one
returns-clause-one c = one_form

pub returns-clause-normal : goal.returns-clause-normal
returns-clause-normal c = normal_is_the_form
