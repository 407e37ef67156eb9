use Rattle.icu_decimal_scientific.proofs.ShownExponentLemmas.{shown_exponent_is_function}
use Rattle.icu_decimal_scientific.proofs.laws.shown_exponent_is_a_function.Goals as goal

pub returns : goal.returns
returns c = shown_exponent_is_function
