-- What a map has at a key: the value of the first entry with it.
use Rattle.std.proofs.Common.{◌≡◌, Bool, true, false, List, [], ◌∷◌, Option, None, Some, fold, sym, refl, ap, ◌∙◌}
use Rattle.std.specs.Prelude.{if◌then◌else◌}
use Rattle.std.specs.List.{AllByRecursion}
use Rattle.std.specs.List.Sorted.{IsStrictlySortedBy}
use Rattle.std.specs.Ordering.{match_ordering, is_eq}
use Rattle.std.specs.declared.cmp.Ordering.{Ordering}
use Rattle.std.specs.declared.cmp.Ordering.TheVariants.{Less, Equal, Greater}
use Rattle.std.specs.Cmp.Lexicographic.{texts_ties}
use Rattle.icu_locale_core_grammar.specs.Subtags.{Text, same_text}
use Rattle.icu_locale_core_grammar.specs.Collections.{text_cmp, Entry, keys_of, Rises, put_first, map_of, value_at, first_there}
use Rattle.icu_locale_core_grammar.proofs.CollectionLemmas.{same_text_equal}
use Rattle.icu_locale_core_grammar.proofs.SetLemmas.{cmp_equal, cmp_through}
use Rattle.icu_locale_core_grammar.proofs.ListLemmas.{each_weaker}
use Rattle.icu_locale_core_grammar.proofs.MapLemmas.{put_entry, Rises-put, rises_none}

-- a key below all keys of a map is not there
absent : (key : Text) (fs : List Entry) → AllByRecursion (λ k. text_cmp key k ≡ Less) (keys_of fs) → value_at key fs ≡ None
absent key [] each = refl
absent key (f ∷ fs) each = ap (λ b. if b then Some f.1 else value_at key fs) (texts_ties key f.0 ∙ ap is_eq each.0) ∙ absent key fs each.1

first_none : {A : Type 0} (o : Option A) → o ≡ first_there o None
first_none None = refl
first_none (Some a) = refl

-- the entry alone
abbrev alone : Text → Entry → Option (List Text)
alone key e = if same_text key e.0 then Some e.1 else None

module _ (key : Text) where
  at_less : (e f : Entry) (fs : List Entry) (b : Bool) → same_text key e.0 ≡ b → text_cmp e.0 f.0 ≡ Less → AllByRecursion (λ k. text_cmp f.0 k ≡ Less) (keys_of fs)
      → (if b then Some e.1 else value_at key (f ∷ fs)) ≡ first_there (value_at key (f ∷ fs)) (if b then Some e.1 else None)
  at_less e f fs true same less each =
      let all : AllByRecursion (λ k. text_cmp e.0 k ≡ Less) (keys_of (f ∷ fs)) = (less, each_weaker (λ k. text_cmp f.0 k ≡ Less) (λ k. text_cmp e.0 k ≡ Less) (λ k g. cmp_through e.0 f.0 k less g) (keys_of fs) each) in
      let none : value_at key (f ∷ fs) ≡ None = ap (λ k. value_at k (f ∷ fs)) (same_text_equal key e.0 same) ∙ absent e.0 (f ∷ fs) all in
      sym (ap (λ o. first_there o (Some e.1)) none)
  at_less e f fs false same less each = first_none (value_at key (f ∷ fs))

  at_equal : (e f : Entry) (fs : List Entry) (b : Bool) → same_text key f.0 ≡ b → (if b then Some f.1 else value_at key fs) ≡ first_there (if b then Some f.1 else value_at key fs) (if b then Some e.1 else None)
  at_equal e f fs true same = refl
  at_equal e f fs false same = first_none (value_at key fs)

  at_greater : (e f : Entry) (fs : List Entry) (b : Bool) → value_at key (put_first e fs) ≡ first_there (value_at key fs) (alone key e)
      → (if b then Some f.1 else value_at key (put_first e fs)) ≡ first_there (if b then Some f.1 else value_at key fs) (alone key e)
  at_greater e f fs true more = refl
  at_greater e f fs false more = more

  pub value_at-put : (e : Entry) (fs : List Entry) → Rises (keys_of fs) → value_at key (put_first e fs) ≡ first_there (value_at key fs) (alone key e)
  unfolding IsStrictlySortedBy
  value_at-put e [] rises = refl
  value_at-put e (f ∷ fs) rises = by_order (text_cmp e.0 f.0) refl (value_at-put e fs rises.1)
    where
      by_order : (o : Ordering) → text_cmp e.0 f.0 ≡ o → value_at key (put_first e fs) ≡ first_there (value_at key fs) (alone key e)
          → value_at key (match_ordering o (e ∷ f ∷ fs) (f ∷ fs) (f ∷ put_first e fs)) ≡ first_there (value_at key (f ∷ fs)) (alone key e)
      by_order Less g more = at_less e f fs (same_text key e.0) refl g rises.0
      by_order Equal g more =
          at_equal e f fs (same_text key f.0) refl
          ∙ ap (λ k. first_there (value_at key (f ∷ fs)) (if same_text key k then Some e.1 else None)) (sym (cmp_equal e.0 f.0 g))
      by_order Greater g more = at_greater e f fs (same_text key f.0) more

  joined : (o r : Option (List Text)) (b : Bool) (v : List Text) → first_there (first_there o (if b then Some v else None)) r ≡ first_there o (if b then Some v else r)
  joined (Some a) r b v = refl
  joined None r true v = refl
  joined None r false v = refl

  value_at-mapped : (m es : List Entry) → Rises (keys_of m) → value_at key (fold put_entry m es) ≡ first_there (value_at key m) (value_at key es)
  value_at-mapped m [] rises = first_none (value_at key m)
  value_at-mapped m (e ∷ es) rises =
      value_at-mapped (put_first e m) es (Rises-put e m rises) ∙ ap (λ o. first_there o (value_at key es)) (value_at-put e m rises) ∙ joined (value_at key m) (value_at key es) (same_text key e.0) e.1

  pub value_at-map_of : (es : List Entry) → value_at key (map_of es) ≡ value_at key es
  value_at-map_of es = value_at-mapped [] es rises_none
