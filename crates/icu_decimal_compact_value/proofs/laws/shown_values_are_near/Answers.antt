use Rattle.icu_decimal_compact_value.proofs.ShownLemmas.{shown_near, zero_for_zero}
use Rattle.icu_decimal_compact_value.proofs.laws.shown_values_are_near.Goals as goal

pub returns-clause-near : goal.returns-clause-near
returns-clause-near c = shown_near

pub returns-clause-zero_value : goal.returns-clause-zero_value
returns-clause-zero_value c = zero_for_zero
