-- Comparing two lists of extensions entry by entry, and the law of the order of extensions.
use Rattle.std.proofs.Common.{◌≡◌, ◌+◌, true, false, List, [], ◌∷◌, inl, inr, length, refl, sym, ap, ◌∙◌, subst, arith}
use Rattle.std.specs.Prelude.{◌⊎◌}
use Rattle.std.specs.Cmp.{nat_cmp_is, IsTotalOrder, on_total, then_total}
use Rattle.std.proofs.lemmas.Cmp.{tied_itself}
use Rattle.std.specs.Ordering.{ordering_then, nat_cmp, is_ne}
use Rattle.std.specs.declared.cmp.Ordering.{Ordering}
use Rattle.std.specs.declared.cmp.Ordering.TheVariants.{Less, Equal, Greater}
use Rattle.icu_locale_core_grammar.specs.Collections.{Entry}
use Rattle.icu_locale_core_grammar.specs.TagOrder.{entry_cmp, entries_cmp, texts_cmp, unicode_cmp, transform_cmp}
use Rattle.icu_locale_core_grammar.specs.OrderLaws.{IsOrder}
use Rattle.icu_locale_core_grammar.proofs.OrderLemmas.{tie_first, tie_second, texts_order, entries_order, unicode_order, transform_order}
use Rattle.icu_locale_core_extensions.specs.ExtensionsOrder.{extensions_cmp}
use Rattle.icu_locale_core_extensions.specs.ExtensionsValue.{ExtensionsValue}

-- ---- two lists, entry by entry

not_equal : (o : Ordering) → is_ne o ≡ false → o ≡ Equal
not_equal Less e = cc
not_equal Equal e = refl
not_equal Greater e = cc

stays : (o p : Ordering) → is_ne o ≡ true → o ≡ ordering_then o p
stays Less p e = refl
stays Equal p e = cc
stays Greater p e = refl

module _ (os ps : List Entry) where
  -- the entries before xs and ys are equal
  pub record IsComparing (xs ys : List Entry) : Type 0 where
    pub order : entries_cmp os ps ≡ entries_cmp xs ys
    pub sizes : length os + length ys ≡ length ps + length xs

  pub comparing_begins : (xs ys : List Entry) → xs ≡ os → ys ≡ ps → IsComparing xs ys
  comparing_begins xs ys e f =
      record { order = (λ i. entries_cmp (sym e i) (sym f i)); sizes = omega (arith, ap length e, ap length f) }

  module _ (xs ys more others : List Entry) (x y : Entry) (o : Ordering) (e : xs ≡ x ∷ more) (f : ys ≡ y ∷ others) (is : o ≡ entry_cmp x y) (so_far : IsComparing xs ys) where
    step : entries_cmp os ps ≡ ordering_then o (entries_cmp more others)
    step = so_far.order ∙ (λ i. entries_cmp (e i) (f i)) ∙ ap (λ r. ordering_then r (entries_cmp more others)) (sym is)

    pub comparing_goes_on : is_ne o ≡ false → IsComparing more others
    comparing_goes_on same =
        let longer : length xs ≡ length more + 1 = ap length e ∙ omega arith in
        let second : length ys ≡ length others + 1 = ap length f ∙ omega arith in
        record { order = step ∙ ap (λ r. ordering_then r (entries_cmp more others)) (not_equal o same); sizes = omega (arith, so_far.sizes, longer, second) }

    pub comparing_stops : is_ne o ≡ true → o ≡ entries_cmp os ps
    comparing_stops differs = stays o (entries_cmp more others) differs ∙ sym step

  ends_first : (ys : List Entry) → IsComparing [] ys → nat_cmp (length os) (length ps) ≡ entries_cmp os ps
  ends_first [] so_far = sym (nat_cmp_is (length os) (length ps) Equal (omega (arith, so_far.sizes))) ∙ sym so_far.order
  ends_first (y ∷ ys) so_far = sym (nat_cmp_is (length os) (length ps) Less (omega (arith, so_far.sizes))) ∙ sym so_far.order

  ends_second : (xs : List Entry) → IsComparing xs [] → nat_cmp (length os) (length ps) ≡ entries_cmp os ps
  ends_second [] so_far = ends_first [] so_far
  ends_second (x ∷ xs) so_far = sym (nat_cmp_is (length os) (length ps) Greater (omega (arith, so_far.sizes))) ∙ sym so_far.order

  pub comparing_ends : (xs ys : List Entry) → (xs ≡ []) ⊎ (ys ≡ []) → IsComparing xs ys → nat_cmp (length os) (length ps) ≡ entries_cmp os ps
  comparing_ends xs ys (inl e) so_far = ends_first ys (subst (λ l. IsComparing l ys) e so_far)
  comparing_ends xs ys (inr e) so_far = ends_second xs (subst (λ l. IsComparing xs l) e so_far)

-- ---- the law

extensions_total : IsTotalOrder extensions_cmp
extensions_total =
    then_total (on_total (λ (e : ExtensionsValue). e.blocks.unicode) unicode_order.total)
    (then_total (on_total (λ (e : ExtensionsValue). e.blocks.transform) transform_order.total)
    (then_total (on_total (λ (e : ExtensionsValue). e.own) texts_order.total) (on_total (λ (e : ExtensionsValue). e.blocks.others) entries_order.total)))

extensions_same : (x y : ExtensionsValue) → extensions_cmp x y ≡ Equal → x ≡ y
extensions_same x y e =
    let s = unicode_cmp x.blocks.unicode y.blocks.unicode in
    let t = transform_cmp x.blocks.transform y.blocks.transform in
    let u = texts_cmp x.own y.own in
    let v = entries_cmp x.blocks.others y.blocks.others in
    let second = tie_second s (ordering_then t (ordering_then u v)) e in
    let third = tie_second t (ordering_then u v) second in
    let unicode = (unicode_order.apart x.blocks.unicode y.blocks.unicode).0 (tie_first s (ordering_then t (ordering_then u v)) e) in
    let transform = (transform_order.apart x.blocks.transform y.blocks.transform).0 (tie_first t (ordering_then u v) second) in
    let own = (texts_order.apart x.own y.own).0 (tie_first u v third) in
    let others = (entries_order.apart x.blocks.others y.blocks.others).0 (tie_second u v third) in
    λ i. record { blocks = record { unicode = unicode i; transform = transform i; others = others i }; own = own i }

pub extensions_order : IsOrder extensions_cmp
extensions_order = record { total = extensions_total; apart = λ x y. (extensions_same x y, λ e. subst (λ z. extensions_cmp x z ≡ Equal) e (tied_itself extensions_total x)) }
