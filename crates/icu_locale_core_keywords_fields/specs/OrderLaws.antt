-- The comparisons of values and of maps are an equality and a total order, equal exactly where the lists are one.
-- Defined in docs/tags.md, "Keywords and fields as values".
-- Cited by the comparisons of values and of maps, whose laws they are.
use Rattle.std.proofs.Common.{◌≡◌, true, ◌&&◌, List, Some, refl, ap, ◌∙◌, Decides}
use Rattle.std.proofs.lemmas.Bool.{and_parts, and_from}
use Rattle.std.specs.Cmp.{IsEquivalence, IsPartialOrder, IsTotalOrder, on_equiv, and_equiv, po}
use Rattle.std.specs.Cmp.Lexicographic.{pointwise_decides, bytes_decides, lists_equiv, lists_ties, nat_list_eq_equiv, texts_ties}
use Rattle.std.specs.Ordering.{eq_by_cmp, is_eq, ordering_then}
use Rattle.std.specs.declared.cmp.Ordering.{Ordering}
use Rattle.std.specs.declared.cmp.Ordering.TheVariants.{Less, Equal, Greater}
use Rattle.icu_locale_core_grammar.specs.Subtags.{Text, same_text}
use Rattle.icu_locale_core_grammar.specs.Collections.{Entry, text_cmp}
use Rattle.icu_locale_core_grammar.specs.TagOrder.{texts_cmp, entry_cmp, entries_cmp}
use Rattle.icu_locale_core_grammar.proofs.OrderLemmas.{texts_order, entries_order}
use Rattle.icu_locale_core_keywords_fields.specs.Orders.{same_value, same_entry, same_entries}

-- ---- values

pub values_equiv : IsEquivalence same_value
values_equiv = lists_equiv nat_list_eq_equiv

pub values_total : IsTotalOrder texts_cmp
values_total = texts_order.total

pub values_tie : (v w : List Text) → same_value v w ≡ eq_by_cmp texts_cmp v w
values_tie = lists_ties text_cmp texts_ties

pub values_decide : (v w : List Text) → Decides (same_value v w) (v ≡ w)
values_decide = pointwise_decides bytes_decides

-- ---- entries

entry_equiv : IsEquivalence same_entry
entry_equiv = and_equiv (on_equiv (λ (e : Entry). e.0) nat_list_eq_equiv) (on_equiv (λ (e : Entry). e.1) values_equiv)

entry_ties : (e f : Entry) → same_entry e f ≡ eq_by_cmp entry_cmp e f
entry_ties e f = ap (λ b. b && same_value e.1 f.1) (texts_ties e.0 f.0) ∙ ap (λ b. is_eq (text_cmp e.0 f.0) && b) (values_tie e.1 f.1) ∙ both (text_cmp e.0 f.0) (texts_cmp e.1 f.1)
  where
    both : (o p : Ordering) → (is_eq o && is_eq p) ≡ is_eq (ordering_then o p)
    both Less p = refl
    both Equal p = refl
    both Greater p = refl

entry_decides : (e f : Entry) → Decides (same_entry e f) (e ≡ f)
entry_decides e f = (one, two)
  where
    one : same_entry e f ≡ true → e ≡ f
    one h =
        let parts = and_parts (same_text e.0 f.0) (same_value e.1 f.1) h in
        let key : e.0 ≡ f.0 = (bytes_decides e.0 f.0).0 parts.0 in
        let value : e.1 ≡ f.1 = (values_decide e.1 f.1).0 parts.1 in
        ap (λ k. (k, e.1)) key ∙ ap (λ v. (f.0, v)) value

    two : e ≡ f → same_entry e f ≡ true
    two h = and_from (same_text e.0 f.0) (same_value e.1 f.1) ((bytes_decides e.0 f.0).1 (ap (λ g. g.0) h)) ((values_decide e.1 f.1).1 (ap (λ g. g.1) h))

-- ---- maps

pub entries_equiv : IsEquivalence same_entries
entries_equiv = lists_equiv entry_equiv

pub entries_total : IsTotalOrder entries_cmp
entries_total = entries_order.total

pub entries_tie : (es fs : List Entry) → same_entries es fs ≡ eq_by_cmp entries_cmp es fs
entries_tie = lists_ties entry_cmp entry_ties

pub entries_po : IsPartialOrder same_entries (λ es fs. Some (entries_cmp es fs))
entries_po = po entries_total entries_tie

pub entries_decide : (es fs : List Entry) → Decides (same_entries es fs) (es ≡ fs)
entries_decide = pointwise_decides entry_decides
