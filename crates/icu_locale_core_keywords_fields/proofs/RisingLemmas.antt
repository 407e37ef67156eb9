-- Maps stay maps: keys rise after each change. And what a changed map has at a key.
use Rattle.std.proofs.Common.{◌≡◌, Bool, true, false, not, List, [], ◌∷◌, ◌++◌, None, Some, filter, cond, sym, refl, ap, ◌∙◌, subst}
use Rattle.std.specs.Prelude.{if◌then◌else◌, Result, Ok, Err, OnOk, OnErr}
use Rattle.std.specs.List.{AllByRecursion, items_where_true}
use Rattle.std.specs.List.Sorted.{IsStrictlySortedBy}
use Rattle.std.specs.Ordering.{match_ordering, is_eq}
use Rattle.std.specs.declared.cmp.Ordering.{Ordering}
use Rattle.std.specs.declared.cmp.Ordering.TheVariants.{Less, Equal, Greater}
use Rattle.std.specs.Cmp.Lexicographic.{texts_ties}
use Rattle.icu_locale_core_grammar.specs.Subtags.{Text, same_text}
use Rattle.icu_locale_core_grammar.specs.Collections.{text_cmp, Entry, keys_of, Rises, insert_text, value_at, first_there}
use Rattle.icu_locale_core_grammar.proofs.CollectionLemmas.{same_text_equal, same_text_refl}
use Rattle.icu_locale_core_grammar.proofs.SetLemmas.{cmp_equal, Rises-insert}
use Rattle.icu_locale_core_grammar.proofs.MapLemmas.{Rises-map_of}
use Rattle.icu_locale_core_grammar.proofs.LookupLemmas.{value_at-map_of}
use Rattle.icu_locale_core_keywords_fields.specs.Retained.{IsRetained}
use Rattle.icu_locale_core_keywords_fields.specs.EntryChanges.{set_entry, without_key, joined_maps}

-- ---- a value set

pub keys-set : (e : Entry) (fs : List Entry) → keys_of (set_entry e fs) ≡ insert_text e.0 (keys_of fs)
keys-set e [] = refl
keys-set e (f ∷ fs) = by_order (text_cmp e.0 f.0) refl (keys-set e fs)
  where
    by_order : (o : Ordering) → text_cmp e.0 f.0 ≡ o → keys_of (set_entry e fs) ≡ insert_text e.0 (keys_of fs)
        → keys_of (match_ordering o (e ∷ f ∷ fs) (e ∷ fs) (f ∷ set_entry e fs)) ≡ match_ordering o (e.0 ∷ f.0 ∷ keys_of fs) (f.0 ∷ keys_of fs) (f.0 ∷ insert_text e.0 (keys_of fs))
    by_order Less same more = refl
    by_order Equal same more = ap (λ k. k ∷ keys_of fs) (cmp_equal e.0 f.0 same)
    by_order Greater same more = ap (λ l. f.0 ∷ l) more

pub Rises-set : (e : Entry) (fs : List Entry) → Rises (keys_of fs) → Rises (keys_of (set_entry e fs))
Rises-set e fs rises = subst Rises (sym (keys-set e fs)) (Rises-insert e.0 (keys_of fs) rises)

-- after a call that sets it, or fails and changes nothing
pub Rises_either : {T E : Type 0} (r : Result T E) (e : Entry) (es new : List Entry) → Rises (keys_of es) → OnOk r (new ≡ set_entry e es) → OnErr r (new ≡ es) → Rises (keys_of new)
Rises_either (Ok x) e es new rises set kept = subst (λ l. Rises (keys_of l)) (sym set) (Rises-set e es rises)
Rises_either (Err x) e es new rises set kept = subst (λ l. Rises (keys_of l)) (sym kept) rises

-- ---- some entries kept

each_picked : (P : Text → Type 0) (bs : List Bool) (es : List Entry) → AllByRecursion P (keys_of es) → AllByRecursion P (keys_of (items_where_true bs es))
each_picked P [] es each = tt
each_picked P (b ∷ bs) [] each = tt
each_picked P (true ∷ bs) (e ∷ es) each = (each.0, each_picked P bs es each.1)
each_picked P (false ∷ bs) (e ∷ es) each = each_picked P bs es each.1

pub Rises-picked : (bs : List Bool) (es : List Entry) → Rises (keys_of es) → Rises (keys_of (items_where_true bs es))
unfolding IsStrictlySortedBy
Rises-picked [] es rises = tt
Rises-picked (b ∷ bs) [] rises = tt
Rises-picked (true ∷ bs) (e ∷ es) rises = (each_picked (λ k. text_cmp e.0 k ≡ Less) bs es rises.0, Rises-picked bs es rises.1)
Rises-picked (false ∷ bs) (e ∷ es) rises = Rises-picked bs es rises.1

each_filtered : (P : Text → Type 0) (test : Entry → Bool) (es : List Entry) → AllByRecursion P (keys_of es) → AllByRecursion P (keys_of (filter test es))
each_filtered P test [] each = tt
each_filtered P test (e ∷ es) each = by_test (test e) (each_filtered P test es each.1)
  where
    by_test : (b : Bool) → AllByRecursion P (keys_of (filter test es)) → AllByRecursion P (keys_of (cond b (e ∷ filter test es) (filter test es)))
    by_test true more = (each.0, more)
    by_test false more = more

Rises-filtered : (test : Entry → Bool) (es : List Entry) → Rises (keys_of es) → Rises (keys_of (filter test es))
unfolding IsStrictlySortedBy
Rises-filtered test [] rises = tt
Rises-filtered test (e ∷ es) rises = by_test (test e) (Rises-filtered test es rises.1)
  where
    by_test : (b : Bool) → Rises (keys_of (filter test es)) → Rises (keys_of (cond b (e ∷ filter test es) (filter test es)))
    by_test true more = (each_filtered (λ k. text_cmp e.0 k ≡ Less) test es rises.0, more)
    by_test false more = more

pub Rises-without : (key : Text) (es : List Entry) → Rises (keys_of es) → Rises (keys_of (without_key key es))
Rises-without key es rises = Rises-filtered (λ e. not (same_text key e.0)) es rises

-- ---- what is at a key

module _ (q : Text) where
  -- a key below all keys of a map is not there
  pub absent : (key : Text) → same_text q key ≡ true → (es : List Entry) → AllByRecursion (λ k. text_cmp key k ≡ Less) (keys_of es) → value_at q es ≡ None
  absent key same [] each = refl
  absent key same (e ∷ es) each =
      let differs : same_text q e.0 ≡ false = ap (λ k. same_text k e.0) (same_text_equal q key same) ∙ texts_ties key e.0 ∙ ap is_eq each.0 in
      ap (λ b. if b then Some e.1 else value_at q es) differs ∙ absent key same es each.1

  -- of the entry's own key the answer is its value, of another key it is the answer of the rest
  set_over : (e f : Entry) (fs : List Entry) (b : Bool) → same_text q e.0 ≡ b → text_cmp e.0 f.0 ≡ Equal
      → (if b then Some e.1 else value_at q fs) ≡ (if b then Some e.1 else value_at q (f ∷ fs))
  set_over e f fs true same tie = refl
  set_over e f fs false same tie =
      let differs : same_text q f.0 ≡ false = ap (same_text q) (sym (cmp_equal e.0 f.0 tie)) ∙ same in
      sym (ap (λ b. if b then Some f.1 else value_at q fs) differs)

  set_after : (e f : Entry) (fs : List Entry) (a b : Bool) → same_text q f.0 ≡ a → same_text q e.0 ≡ b → text_cmp e.0 f.0 ≡ Greater
      → value_at q (set_entry e fs) ≡ (if b then Some e.1 else value_at q fs)
      → (if a then Some f.1 else value_at q (set_entry e fs)) ≡ (if b then Some e.1 else (if a then Some f.1 else value_at q fs))
  set_after e f fs true true first second order more =
      let one : e.0 ≡ f.0 = sym (same_text_equal q e.0 second) ∙ same_text_equal q f.0 first in
      let tie : same_text e.0 f.0 ≡ true = ap (λ k. same_text e.0 k) (sym one) ∙ same_text_refl e.0 in
      let apart : same_text e.0 f.0 ≡ false = texts_ties e.0 f.0 ∙ ap is_eq order in cc
  set_after e f fs true false first second order more = refl
  set_after e f fs false b first second order more = more

  pub value_at-set : (e : Entry) (fs : List Entry) → value_at q (set_entry e fs) ≡ (if same_text q e.0 then Some e.1 else value_at q fs)
  value_at-set e [] = refl
  value_at-set e (f ∷ fs) = by_order (text_cmp e.0 f.0) refl (value_at-set e fs)
    where
      by_order : (o : Ordering) → text_cmp e.0 f.0 ≡ o → value_at q (set_entry e fs) ≡ (if same_text q e.0 then Some e.1 else value_at q fs)
          → value_at q (match_ordering o (e ∷ f ∷ fs) (e ∷ fs) (f ∷ set_entry e fs)) ≡ (if same_text q e.0 then Some e.1 else value_at q (f ∷ fs))
      by_order Less order more = refl
      by_order Equal order more = set_over e f fs (same_text q e.0) refl order
      by_order Greater order more = set_after e f fs (same_text q f.0) (same_text q e.0) refl refl order more

  without_step : (key : Text) (e : Entry) (es : List Entry) (a b c : Bool) → same_text key e.0 ≡ a → same_text q e.0 ≡ b → same_text q key ≡ c
      → value_at q (without_key key es) ≡ (if c then None else value_at q es)
      → value_at q (cond (not a) (e ∷ without_key key es) (without_key key es)) ≡ (if c then None else (if b then Some e.1 else value_at q es))
  without_step key e es true b true first second third more = more
  without_step key e es true true false first second third more =
      let one : q ≡ key = same_text_equal q e.0 second ∙ sym (same_text_equal key e.0 first) in
      let tie : same_text q key ≡ true = ap (same_text q) (sym one) ∙ same_text_refl q in cc
  without_step key e es true false false first second third more = more
  without_step key e es false true true first second third more =
      let one : key ≡ e.0 = sym (same_text_equal q key third) ∙ same_text_equal q e.0 second in
      let tie : same_text key e.0 ≡ true = ap (same_text key) (sym one) ∙ same_text_refl key in cc
  without_step key e es false true false first second third more = ap (λ b. if b then Some e.1 else value_at q (without_key key es)) second
  without_step key e es false false c first second third more = ap (λ b. if b then Some e.1 else value_at q (without_key key es)) second ∙ more

  pub value_at-without : (key : Text) (es : List Entry) → value_at q (without_key key es) ≡ (if same_text q key then None else value_at q es)
  value_at-without key [] = by_test (same_text q key)
    where
      by_test : (b : Bool) → value_at q [] ≡ (if b then None else value_at q [])
      by_test true = refl
      by_test false = refl
  value_at-without key (e ∷ es) = without_step key e es (same_text key e.0) (same_text q e.0) (same_text q key) refl refl refl (value_at-without key es)

  value_at-append : (es fs : List Entry) → value_at q (es ++ fs) ≡ first_there (value_at q es) (value_at q fs)
  value_at-append [] fs = refl
  value_at-append (e ∷ es) fs = by_test (same_text q e.0) (value_at-append es fs)
    where
      by_test : (b : Bool) → value_at q (es ++ fs) ≡ first_there (value_at q es) (value_at q fs)
          → (if b then Some e.1 else value_at q (es ++ fs)) ≡ first_there (if b then Some e.1 else value_at q es) (value_at q fs)
      by_test true more = refl
      by_test false more = more

  pub value_at-joined : (winners es : List Entry) → value_at q (joined_maps winners es) ≡ first_there (value_at q winners) (value_at q es)
  value_at-joined winners es = value_at-map_of q (winners ++ es) ∙ value_at-append winners es

pub Rises-joined : (winners es : List Entry) → Rises (keys_of (joined_maps winners es))
Rises-joined winners es = Rises-map_of (winners ++ es)

-- what a closure left of a map
pub Rises-retained : {F : Type 0} {calls : F → Text → Bool → F → Type 0} {f : F} {before after : List Entry} → IsRetained calls f before after → Rises (keys_of before) → Rises (keys_of after)
Rises-retained {before = before} retained rises = subst (λ l. Rises (keys_of l)) (sym retained.kept) (Rises-picked retained.answers before rises)
