use Rattle.icu_locale_core_locale.proofs.OrderLemmas.{orders_total}
use Rattle.icu_locale_core_locale.proofs.laws.orders_are_total.Goals as goal

pub returns : goal.returns
returns c = orders_total
