use Rattle.icu_decimal.proofs.CompactLawLemmas.{shown_form_answers, shown_form_is_in_range, shown_form_is_shown_value, shown_form_writes_same}
use Rattle.icu_decimal.proofs.laws.compact.shown_forms_are_answered.Goals as goal

pub returns-clause-answer : goal.returns-clause-answer
returns-clause-answer c = shown_form_answers

pub returns-clause-same : goal.returns-clause-same
returns-clause-same c = shown_form_writes_same

pub returns-clause-in_range : goal.returns-clause-in_range
returns-clause-in_range c = shown_form_is_in_range

pub returns-clause-value : goal.returns-clause-value
returns-clause-value c = shown_form_is_shown_value
