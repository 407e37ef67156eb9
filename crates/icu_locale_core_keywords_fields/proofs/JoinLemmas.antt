-- Entries set in turn in a map: it becomes the joined map.
use Rattle.std.proofs.Common.{◌≡◌, Bool, true, false, List, [], ◌∷◌, Option, None, Some, fold, sym, refl, ap, ◌∙◌}
use Rattle.std.specs.Prelude.{if◌then◌else◌, is_some}
use Rattle.std.specs.List.Sorted.{IsStrictlySortedBy}
use Rattle.std.specs.Ordering.{match_ordering, is_eq}
use Rattle.std.specs.declared.cmp.Ordering.{Ordering}
use Rattle.std.specs.declared.cmp.Ordering.TheVariants.{Less, Equal, Greater}
use Rattle.std.specs.Cmp.Lexicographic.{texts_ties}
use Rattle.icu_locale_core_grammar.specs.Subtags.{Text, same_text}
use Rattle.icu_locale_core_grammar.specs.Collections.{text_cmp, Entry, keys_of, Rises, put_first, value_at, first_there}
use Rattle.icu_locale_core_grammar.proofs.CollectionLemmas.{same_text_refl}
use Rattle.icu_locale_core_grammar.proofs.ListLemmas.{each_weaker}
use Rattle.icu_locale_core_grammar.proofs.SetLemmas.{cmp_equal, cmp_below, cmp_through}
use Rattle.icu_locale_core_grammar.proofs.MapLemmas.{put_entry}
use Rattle.icu_locale_core_keywords_fields.specs.EntryChanges.{set_entry, set_in_turn, joined_maps, HasKeysOf}
use Rattle.icu_locale_core_keywords_fields.proofs.CopyLemmas.{joined_rising}
use Rattle.icu_locale_core_keywords_fields.proofs.RisingLemmas.{absent, value_at-set, value_at-joined, Rises-set, Rises-joined}

-- ---- a map is what it has at each key

here : (e : Entry) (es : List Entry) → value_at e.0 (e ∷ es) ≡ Some e.1
here e es = ap (λ b. if b then Some e.1 else value_at e.0 es) (same_text_refl e.0)

-- a key below the first of a map is not there
pub none_below : (e f : Entry) (fs : List Entry) → text_cmp e.0 f.0 ≡ Less → Rises (keys_of (f ∷ fs)) → value_at e.0 (f ∷ fs) ≡ None
unfolding IsStrictlySortedBy
none_below e f fs less rises =
    absent e.0 e.0 (same_text_refl e.0) (f ∷ fs)
    (less, each_weaker (λ k. text_cmp f.0 k ≡ Less) (λ k. text_cmp e.0 k ≡ Less) (λ k g. cmp_through e.0 f.0 k less g) (keys_of fs) rises.0)

module _ (e f : Entry) (es fs : List Entry) (first : Rises (keys_of (e ∷ es))) (second : Rises (keys_of (f ∷ fs))) (same : (q : Text) → value_at q (e ∷ es) ≡ value_at q (f ∷ fs)) where
  same_keys : (o : Ordering) → text_cmp e.0 f.0 ≡ o → e.0 ≡ f.0
  same_keys Less g = let bad : Some e.1 ≡ None = sym (here e es) ∙ same e.0 ∙ none_below e f fs g second in cc
  same_keys Equal g = cmp_equal e.0 f.0 g
  same_keys Greater g = let bad : None ≡ Some f.1 = sym (none_below f e es (cmp_below e.0 f.0 g) first) ∙ same f.0 ∙ here f fs in cc

  same_first : e.0 ≡ f.0 → e ≡ f
  same_first keys =
      let values : Some e.1 ≡ Some f.1 = sym (here e es) ∙ same e.0 ∙ ap (λ k. value_at k (f ∷ fs)) keys ∙ here f fs in
      let told : e.1 ≡ f.1 = cc in
      ap (λ k. (k, e.1)) keys ∙ ap (λ v. (f.0, v)) told

  same_rest : e.0 ≡ f.0 → (q : Text) (b : Bool) → same_text q e.0 ≡ b → value_at q es ≡ value_at q fs
  unfolding IsStrictlySortedBy
  same_rest keys q true is = absent q e.0 is es first.0 ∙ sym (absent q f.0 (ap (same_text q) (sym keys) ∙ is) fs second.0)
  same_rest keys q false is =
      sym (ap (λ b. if b then Some e.1 else value_at q es) is) ∙ same q ∙ ap (λ b. if b then Some f.1 else value_at q fs) (ap (same_text q) (sym keys) ∙ is)

same_map : (es fs : List Entry) → Rises (keys_of es) → Rises (keys_of fs) → ((q : Text) → value_at q es ≡ value_at q fs) → es ≡ fs
unfolding IsStrictlySortedBy
same_map [] [] first second same = refl
same_map [] (f ∷ fs) first second same = let bad : None ≡ Some f.1 = same f.0 ∙ here f fs in cc
same_map (e ∷ es) [] first second same = let bad : Some e.1 ≡ None = sym (here e es) ∙ same e.0 in cc
same_map (e ∷ es) (f ∷ fs) first second same =
    let keys : e.0 ≡ f.0 = same_keys e f es fs first second same (text_cmp e.0 f.0) refl in
    ap (λ g. g ∷ es) (same_first e f es fs first second same keys)
    ∙ ap (λ l. f ∷ l) (same_map es fs first.1 second.1 (λ q. same_rest e f es fs first second same keys q (same_text q e.0) refl))

-- ---- the winners set in turn

module _ (q : Text) where
  set_first : (o v : Option (List Text)) (a : List Text) (b : Bool) → (b ≡ true → o ≡ None) → first_there o (if b then Some a else v) ≡ first_there (if b then Some a else o) v
  set_first None v a true none = refl
  set_first None v a false none = refl
  set_first (Some x) v a true none = let bad : Some x ≡ None = none refl in cc
  set_first (Some x) v a false none = refl

  value_in_turn : (es winners : List Entry) → Rises (keys_of winners) → value_at q (fold set_in_turn es winners) ≡ first_there (value_at q winners) (value_at q es)
  unfolding IsStrictlySortedBy
  value_in_turn es [] rises = refl
  value_in_turn es (e ∷ winners) rises =
      value_in_turn (set_entry e es) winners rises.1 ∙ ap (first_there (value_at q winners)) (value_at-set q e es)
      ∙ set_first (value_at q winners) (value_at q es) e.1 (same_text q e.0) (λ same. absent q e.0 same winners rises.0)

Rises_in_turn : (es winners : List Entry) → Rises (keys_of es) → Rises (keys_of (fold set_in_turn es winners))
Rises_in_turn es [] rises = rises
Rises_in_turn es (e ∷ winners) rises = Rises_in_turn (set_entry e es) winners (Rises-set e es rises)

pub set_joined : (winners es : List Entry) → Rises (keys_of winners) → Rises (keys_of es) → fold set_in_turn es winners ≡ joined_maps winners es
set_joined winners es first second =
    same_map (fold set_in_turn es winners) (joined_maps winners es) (Rises_in_turn es winners second) (Rises-joined winners es)
    (λ q. value_in_turn q es winners first ∙ sym (value_at-joined q winners es))

-- ---- winners that have all keys

put_there : (e : Entry) (fs : List Entry) → Rises (keys_of fs) → is_some (value_at e.0 fs) ≡ true → put_first e fs ≡ fs
unfolding IsStrictlySortedBy
put_there e [] rises there = cc
put_there e (f ∷ fs) rises there = by_order (text_cmp e.0 f.0) refl (put_there e fs rises.1)
  where
    by_order : (o : Ordering) → text_cmp e.0 f.0 ≡ o → (is_some (value_at e.0 fs) ≡ true → put_first e fs ≡ fs) → match_ordering o (e ∷ f ∷ fs) (f ∷ fs) (f ∷ put_first e fs) ≡ f ∷ fs
    by_order Less g more = let none = ap is_some (none_below e f fs g rises) in cc
    by_order Equal g more = refl
    by_order Greater g more =
        let apart : same_text e.0 f.0 ≡ false = texts_ties e.0 f.0 ∙ ap is_eq g in
        ap (λ l. f ∷ l) (more (sym (ap (λ b. is_some (if b then Some f.1 else value_at e.0 fs)) apart) ∙ there))

put_none : (winners es : List Entry) → Rises (keys_of winners) → HasKeysOf winners es → fold put_entry winners es ≡ winners
put_none winners [] rises there = refl
put_none winners (e ∷ es) rises there = ap (λ l. fold put_entry l es) (put_there e winners rises there.0) ∙ put_none winners es rises there.1

pub joined_there : (winners es : List Entry) → Rises (keys_of winners) → HasKeysOf winners es → winners ≡ joined_maps winners es
joined_there winners es rises there = sym (put_none winners es rises there) ∙ joined_rising winners es es rises refl

pub set_to_joined : (winners inside es old new : List Entry) → inside ≡ winners → old ≡ es → Rises (keys_of winners) → Rises (keys_of es) → new ≡ fold set_in_turn old inside → new ≡ joined_maps winners es
set_to_joined winners inside es old new same shown first second set =
    set ∙ ap (fold set_in_turn old) same ∙ ap (λ l. fold set_in_turn l winners) shown ∙ set_joined winners es first second
