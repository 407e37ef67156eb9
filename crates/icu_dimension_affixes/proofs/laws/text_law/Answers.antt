use Rattle.icu_dimension_affixes.proofs.UnitTextLemmas.{empty_unit_is_plain, unit_is_text}
use Rattle.icu_dimension_affixes.proofs.laws.text_law.Goals as goal

pub returns : goal.returns
returns c = record { text = unit_is_text; plain = empty_unit_is_plain }
