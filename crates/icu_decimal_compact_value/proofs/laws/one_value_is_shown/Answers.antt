use Rattle.icu_decimal_compact_value.proofs.ShownLemmas.{one_shown, rounded_is_shown, rule_shows, shown_is_rounded}
use Rattle.icu_decimal_compact_value.proofs.laws.one_value_is_shown.Goals as goal

pub returns-clause-rule : goal.returns-clause-rule
returns-clause-rule c = rule_shows

pub returns-clause-one : goal.returns-clause-one
returns-clause-one c = one_shown

pub returns-clause-rounded : goal.returns-clause-rounded
returns-clause-rounded c = λ ones e n v. (rounded_is_shown ones e n v, shown_is_rounded ones e n v)
