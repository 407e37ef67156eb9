use Rattle.icu_locale_core_grammar.proofs.OrderLemmas.{texts_order, entries_order, language_order, unicode_order, transform_order}
use Rattle.icu_locale_core_grammar.proofs.order_laws.part_orders_are_total.Goals as goal

pub returns : goal.returns
returns c = record { texts = texts_order; entries = entries_order; language = language_order; unicode = unicode_order; transform = transform_order }
