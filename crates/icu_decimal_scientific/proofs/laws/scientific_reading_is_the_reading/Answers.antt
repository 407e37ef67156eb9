use Rattle.icu_decimal_scientific.proofs.ScientificReadingsLemmas.{one_reading}
use Rattle.icu_decimal_scientific.proofs.laws.scientific_reading_is_the_reading.Goals as goal

pub returns : goal.returns
returns c = one_reading
