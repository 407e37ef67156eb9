use Rattle.icu_decimal_compact_value.proofs.UnderTableLemmas.{shown_value_can_be_shown, shown_value_shows_itself, table_shows_near, table_keeps_order, zero_is_shown_for_zero, zero_shows_zero}
use Rattle.icu_decimal_compact_value.proofs.laws.tables_show_values.Goals as goal

pub returns-clause-order : goal.returns-clause-order
returns-clause-order c = table_keeps_order

pub returns-clause-near : goal.returns-clause-near
returns-clause-near c = table_shows_near

pub returns-clause-zero_value : goal.returns-clause-zero_value
returns-clause-zero_value c = λ ones entries n. (zero_is_shown_for_zero ones entries n, zero_shows_zero ones entries n)

pub returns-clause-itself : goal.returns-clause-itself
returns-clause-itself c = shown_value_shows_itself

pub returns-clause-can : goal.returns-clause-can
returns-clause-can c = shown_value_can_be_shown
