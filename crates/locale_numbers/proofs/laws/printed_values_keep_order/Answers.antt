use Rattle.locale_numbers.proofs.PrintedSizes.{printed_keeps_order}
use Rattle.locale_numbers.proofs.laws.printed_values_keep_order.Goals as goal

pub returns : goal.returns
returns c = printed_keeps_order c.shown_values_are_compact.ensures.compact c.shown_forms_are_answered.ensures.value c.tables_show_values.ensures.order
