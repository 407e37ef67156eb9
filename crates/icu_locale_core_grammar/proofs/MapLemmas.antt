-- Maps from texts: their keys are a set, what holds of each entry is kept, and entries whose keys rise are their own map.
use Rattle.std.proofs.Common.{◌≡◌, List, [], ◌∷◌, ◌++◌, fold, sym, refl, ap, ◌∙◌, subst, append_assoc, append-nil}
use Rattle.std.specs.List.{AllByRecursion}
use Rattle.std.specs.List.Sorted.{IsStrictlySortedBy}
use Rattle.std.specs.Ordering.{match_ordering, ordering_reverse}
use Rattle.std.specs.declared.cmp.Ordering.{Ordering}
use Rattle.std.specs.declared.cmp.Ordering.TheVariants.{Less, Equal, Greater}
use Rattle.icu_locale_core_grammar.specs.Subtags.{Text}
use Rattle.icu_locale_core_grammar.specs.Collections.{text_cmp, Entry, keys_of, Rises, insert_text, set_of, put_first, map_of}
use Rattle.icu_locale_core_grammar.proofs.SetLemmas.{cmp_swapped, Rises-insert, put_text}

abbrev pub put_entry : List Entry → Entry → List Entry
put_entry m e = put_first e m

-- ---- what holds of each member

pub each_inserted : (P : Text → Type 0) (t : Text) (us : List Text) → P t → AllByRecursion P us → AllByRecursion P (insert_text t us)
each_inserted P t [] here each = (here, tt)
each_inserted P t (u ∷ us) here each = by_order (text_cmp t u) (each_inserted P t us here each.1)
  where
    by_order : (o : Ordering) → AllByRecursion P (insert_text t us) → AllByRecursion P (match_ordering o (t ∷ u ∷ us) (u ∷ us) (u ∷ insert_text t us))
    by_order Less more = (here, each)
    by_order Equal more = each
    by_order Greater more = (each.0, more)

each_folded : (P : Text → Type 0) (set ts : List Text) → AllByRecursion P set → AllByRecursion P ts → AllByRecursion P (fold put_text set ts)
each_folded P set [] here each = here
each_folded P set (t ∷ ts) here each = each_folded P (insert_text t set) ts (each_inserted P t set each.0 here) each.1

pub each_in_set : (P : Text → Type 0) (ts : List Text) → AllByRecursion P ts → AllByRecursion P (set_of ts)
each_in_set P ts each = each_folded P [] ts tt each

pub each_put : (P : Entry → Type 0) (e : Entry) (fs : List Entry) → P e → AllByRecursion P fs → AllByRecursion P (put_first e fs)
each_put P e [] here each = (here, tt)
each_put P e (f ∷ fs) here each = by_order (text_cmp e.0 f.0) (each_put P e fs here each.1)
  where
    by_order : (o : Ordering) → AllByRecursion P (put_first e fs) → AllByRecursion P (match_ordering o (e ∷ f ∷ fs) (f ∷ fs) (f ∷ put_first e fs))
    by_order Less more = (here, each)
    by_order Equal more = each
    by_order Greater more = (each.0, more)

each_mapped : (P : Entry → Type 0) (m es : List Entry) → AllByRecursion P m → AllByRecursion P es → AllByRecursion P (fold put_entry m es)
each_mapped P m [] here each = here
each_mapped P m (e ∷ es) here each = each_mapped P (put_first e m) es (each_put P e m each.0 here) each.1

pub each_in_map : (P : Entry → Type 0) (es : List Entry) → AllByRecursion P es → AllByRecursion P (map_of es)
each_in_map P es each = each_mapped P [] es tt each

-- ---- keys

pub keys-put : (e : Entry) (fs : List Entry) → keys_of (put_first e fs) ≡ insert_text e.0 (keys_of fs)
keys-put e [] = refl
keys-put e (f ∷ fs) = by_order (text_cmp e.0 f.0) (keys-put e fs)
  where
    by_order : (o : Ordering) → keys_of (put_first e fs) ≡ insert_text e.0 (keys_of fs)
        → keys_of (match_ordering o (e ∷ f ∷ fs) (f ∷ fs) (f ∷ put_first e fs)) ≡ match_ordering o (e.0 ∷ f.0 ∷ keys_of fs) (f.0 ∷ keys_of fs) (f.0 ∷ insert_text e.0 (keys_of fs))
    by_order Less more = refl
    by_order Equal more = refl
    by_order Greater more = ap (λ l. f.0 ∷ l) more

pub Rises-put : (e : Entry) (fs : List Entry) → Rises (keys_of fs) → Rises (keys_of (put_first e fs))
Rises-put e fs rises = subst Rises (sym (keys-put e fs)) (Rises-insert e.0 (keys_of fs) rises)

Rises-mapped : (m es : List Entry) → Rises (keys_of m) → Rises (keys_of (fold put_entry m es))
Rises-mapped m [] rises = rises
Rises-mapped m (e ∷ es) rises = Rises-mapped (put_first e m) es (Rises-put e m rises)

pub rises_none : Rises []
unfolding IsStrictlySortedBy
rises_none = tt

pub Rises-map_of : (es : List Entry) → Rises (keys_of (map_of es))
Rises-map_of es = Rises-mapped [] es rises_none

-- ---- entries whose keys rise

put_last : (fs : List Entry) (e : Entry) (rest : List Entry) → Rises (keys_of (fs ++ e ∷ rest)) → put_first e fs ≡ fs ++ e ∷ []
unfolding IsStrictlySortedBy
put_last [] e rest rises = refl
put_last (f ∷ fs) e rest rises =
    ap (λ o. match_ordering o (e ∷ f ∷ fs) (f ∷ fs) (f ∷ put_first e fs)) (cmp_swapped e.0 f.0 ∙ ap ordering_reverse (below fs rises.0)) ∙ ap (λ l. f ∷ l) (put_last fs e rest rises.1)
  where
    below : (gs : List Entry) → AllByRecursion (λ v. text_cmp f.0 v ≡ Less) (keys_of (gs ++ e ∷ rest)) → text_cmp f.0 e.0 ≡ Less
    below [] each = each.0
    below (g ∷ gs) each = below gs each.1

pub mapped_rising : (m es : List Entry) → Rises (keys_of (m ++ es)) → fold put_entry m es ≡ m ++ es
mapped_rising m [] rises = sym (append-nil m)
mapped_rising m (e ∷ es) rises =
    ap (λ l. fold put_entry l es) (put_last m e es rises)
    ∙ mapped_rising (m ++ e ∷ []) es (subst (λ l. Rises (keys_of l)) (sym (append_assoc m (e ∷ []) es)) rises) ∙ append_assoc m (e ∷ []) es

pub map_of_rising : (es : List Entry) → Rises (keys_of es) → map_of es ≡ es
map_of_rising es rises = mapped_rising [] es rises
