use Rattle.icu_decimal_scientific.proofs.ScientificReadingLemmas.{one_number_shown, one_value}
use Rattle.icu_decimal_scientific.proofs.laws.scientific_texts_have_one_number.Goals as goal

pub returns : goal.returns
returns c = record { value = one_value; number = one_number_shown }
