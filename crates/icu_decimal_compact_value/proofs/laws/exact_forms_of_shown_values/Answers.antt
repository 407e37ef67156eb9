use Rattle.icu_decimal_compact_value.proofs.ExactLemmas.{choice_value, exact_answers, flat_uses, kept_magnitude, writes_same}
use Rattle.icu_decimal_compact_value.proofs.laws.exact_forms_of_shown_values.Goals as goal

pub returns-clause-value : goal.returns-clause-value
returns-clause-value c = choice_value

pub returns-clause-answer : goal.returns-clause-answer
returns-clause-answer c = exact_answers

pub returns-clause-same : goal.returns-clause-same
returns-clause-same c = writes_same

pub returns-clause-kept : goal.returns-clause-kept
returns-clause-kept c = kept_magnitude

pub returns-clause-flat : goal.returns-clause-flat
returns-clause-flat c = flat_uses
