-- The order of the extensions of two tags: `u`, `t`, the private subtags, and then the others.
-- Defined in docs/tags.md, "Orders".
-- Cited by `total_cmp` of extensions, and by the law of the orders.
use Rattle.std.specs.Ordering.{then_cmp, on}
use Rattle.std.specs.declared.cmp.Ordering.{Ordering}
use Rattle.icu_locale_core_grammar.specs.TagOrder.{texts_cmp, entries_cmp, unicode_cmp, transform_cmp}
use Rattle.icu_locale_core_extensions.specs.ExtensionsValue.{ExtensionsValue}

abbrev pub extensions_cmp : ExtensionsValue → ExtensionsValue → Ordering
extensions_cmp a b =
    then_cmp (on (λ e. e.blocks.unicode) unicode_cmp)
    (then_cmp (on (λ e. e.blocks.transform) transform_cmp)
    (then_cmp (on (λ e. e.own) texts_cmp) (on (λ e. e.blocks.others) entries_cmp))) a b
