-- The laws of the orders.
use Rattle.icu_locale_core_grammar.proofs.OrderLemmas.{tag_order}
use Rattle.icu_locale_core_extensions.specs.SameExtensionLaws.{extensions_decide}
use Rattle.icu_locale_core_extensions.proofs.OrderLemmas.{extensions_order}
use Rattle.icu_locale_core_locale.specs.LocaleOrders.{OrdersAreTotal}
use Rattle.icu_locale_core_locale.specs.SameLocaleLaws.{locale_decides}

pub orders_total : OrdersAreTotal
orders_total = record {
  locales = tag_order;
  extensions = extensions_order;
  same_locales = λ a b. ((λ e. (locale_decides a b).1 ((tag_order.apart a b).0 e)), (λ e. (tag_order.apart a b).1 ((locale_decides a b).0 e)));
  same_extensions = λ a b. ((λ e. (extensions_decide a b).1 ((extensions_order.apart a b).0 e)), (λ e. (extensions_order.apart a b).1 ((extensions_decide a b).0 e)));
}
