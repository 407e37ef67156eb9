use Rattle.locale_numbers.proofs.PrintedSizes.{printed_prints_itself, printed_is_near, zero_is_printed_for_zero}
use Rattle.locale_numbers.proofs.laws.printed_values_are_near.Goals as goal

pub returns-clause-near : goal.returns-clause-near
returns-clause-near c = printed_is_near c.shown_values_are_compact.ensures.compact c.shown_forms_are_answered.ensures.value c.tables_show_values.ensures.near

pub returns-clause-zero_value : goal.returns-clause-zero_value
returns-clause-zero_value c = zero_is_printed_for_zero c.shown_values_are_compact.ensures.compact c.shown_forms_are_answered.ensures.value c.tables_show_values.ensures.zero_value

pub returns-clause-itself : goal.returns-clause-itself
returns-clause-itself c = printed_prints_itself c.shown_values_are_compact.ensures.compact c.shown_forms_are_answered.ensures.value c.tables_show_values.ensures.itself
