use Rattle.icu_decimal_scientific.proofs.ShownFormLemmas.{product_is_function, product_is_tested}
use Rattle.icu_decimal_scientific.proofs.laws.product_is_a_function.Goals as goal

pub returns-clause-test : goal.returns-clause-test
returns-clause-test c = product_is_tested

pub returns-clause-value : goal.returns-clause-value
returns-clause-value c = product_is_function
