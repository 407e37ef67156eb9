use Rattle.icu_dimension_compact.proofs.CompactAmountLemmas.{amount_is_text, patternless}
use Rattle.icu_dimension_compact.proofs.laws.compact_amounts_are_amounts.Goals as goal

pub returns : goal.returns
returns c = record { text = amount_is_text; plain = patternless }
