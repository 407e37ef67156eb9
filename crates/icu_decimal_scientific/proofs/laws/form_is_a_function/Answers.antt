use Rattle.icu_decimal_scientific.proofs.FormOfLemmas.{beyond_is_below, form_is_function, function_is_form}
use Rattle.icu_decimal_scientific.proofs.laws.form_is_a_function.Goals as goal

pub returns : goal.returns
returns c = record { value = form_is_function; beyond = beyond_is_below; form = function_is_form }
