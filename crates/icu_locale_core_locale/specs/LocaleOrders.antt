-- The orders of locales and of their extensions are total.
-- Defined in docs/tags.md, "Orders".
-- Cited by the law of the orders.
use Rattle.std.specs.Prelude.{◌≡◌, ◌↔◌, true}
use Rattle.std.specs.declared.cmp.Ordering.TheVariants.{Equal}
use Rattle.icu_locale_core_grammar.specs.Meaning.{TagMeaning}
use Rattle.icu_locale_core_grammar.specs.OrderLaws.{IsOrder}
use Rattle.icu_locale_core_grammar.specs.TagOrder.{tag_cmp}
use Rattle.icu_locale_core_extensions.specs.ExtensionsOrder.{extensions_cmp}
use Rattle.icu_locale_core_extensions.specs.ExtensionsValue.{ExtensionsValue}
use Rattle.icu_locale_core_extensions.specs.SameExtension.{same_extensions as are_same}
use Rattle.icu_locale_core_locale.specs.SameLocale.{same_locale}

-- both are total orders, and equal is what `==` holds of
pub record OrdersAreTotal : Type 0 where
  pub locales : IsOrder tag_cmp
  pub extensions : IsOrder extensions_cmp
  pub same_locales : (a b : TagMeaning) → (tag_cmp a b ≡ Equal) ↔ (same_locale a b ≡ true)
  pub same_extensions : (a b : ExtensionsValue) → (extensions_cmp a b ≡ Equal) ↔ (are_same a b ≡ true)
