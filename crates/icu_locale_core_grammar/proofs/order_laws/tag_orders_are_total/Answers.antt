use Rattle.icu_locale_core_grammar.proofs.OrderLemmas.{tag_order, subdivision_order, data_locale_order}
use Rattle.icu_locale_core_grammar.proofs.order_laws.tag_orders_are_total.Goals as goal

pub returns : goal.returns
returns c = record { tag = tag_order; subdivision = subdivision_order; data_locale = data_locale_order }
