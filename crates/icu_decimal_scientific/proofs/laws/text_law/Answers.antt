use Rattle.icu_decimal_scientific.proofs.ScientificTextLemmas.{scientific_is_text}
use Rattle.icu_decimal_scientific.proofs.laws.text_law.Goals as goal

pub returns : goal.returns
returns c = scientific_is_text
