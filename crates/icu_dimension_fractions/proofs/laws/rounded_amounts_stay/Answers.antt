use Rattle.icu_dimension_fractions.proofs.FractionLemmas.{rounded_amounts_stay}
use Rattle.icu_dimension_fractions.proofs.laws.rounded_amounts_stay.Goals as goal

pub returns : goal.returns
returns c = rounded_amounts_stay
