use Rattle.icu_decimal_compact_value.proofs.ShownLemmas.{order_kept}
use Rattle.icu_decimal_compact_value.proofs.laws.shown_values_keep_order.Goals as goal

pub returns : goal.returns
returns c = order_kept
