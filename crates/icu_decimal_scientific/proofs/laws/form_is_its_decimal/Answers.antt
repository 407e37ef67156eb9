use Rattle.icu_decimal_scientific.proofs.NotationLemmas.{form_has_product, product_is_the_number}
use Rattle.icu_decimal_scientific.proofs.ProductLemmas.{one_product}
use Rattle.icu_decimal_scientific.proofs.laws.form_is_its_decimal.Goals as goal

pub returns : goal.returns
returns c = record { one = one_product; has = form_has_product; value = product_is_the_number }
