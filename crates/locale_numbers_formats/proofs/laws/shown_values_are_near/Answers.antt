use Rattle.locale_numbers_formats.proofs.DigitShownLemmas.{zero_for_zero, near}
use Rattle.locale_numbers_formats.proofs.laws.shown_values_are_near.Goals as goal

pub returns-clause-zero_is_shown_for_zero : goal.returns-clause-zero_is_shown_for_zero
returns-clause-zero_is_shown_for_zero c = zero_for_zero

pub returns-clause-near : goal.returns-clause-near
returns-clause-near c = near
