use Rattle.icu_decimal_compact_value.proofs.ExactLemmas.{exact_form_has_shown_magnitude}
use Rattle.icu_decimal_compact_value.proofs.UnderTableLemmas.{exact_form_is_in_range}
use Rattle.icu_decimal_compact_value.proofs.laws.exact_forms_are_in_range.Goals as goal

pub returns-clause-magnitude : goal.returns-clause-magnitude
returns-clause-magnitude c = exact_form_has_shown_magnitude

pub returns-clause-in_range : goal.returns-clause-in_range
returns-clause-in_range c = exact_form_is_in_range
