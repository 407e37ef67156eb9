-- What the place of a key in a map tells: its value, and what setting, putting and taking away leave.
use Rattle.std.proofs.Common.{ℕ, zero, suc, ◌≡◌, ◌<◌, true, false, not, List, [], ◌∷◌, ◌++◌, None, Some, cond, length, take, drop, get_or, sym, refl, ap, ◌∙◌, subst, arith}
use Rattle.std.specs.Prelude.{if◌then◌else◌, Result, Ok, Err, MatchResult, is_ok, is_some}
use Rattle.std.proofs.Math.ListN.{set}
use Rattle.std.proofs.lemmas.List.{take-append-drop}
use Rattle.std.proofs.lemmas.List.Elements.{filter-append}
use Rattle.std.specs.List.{insert, remove}
use Rattle.std.specs.Ordering.{match_ordering, ordering_reverse, is_eq}
use Rattle.std.specs.declared.cmp.Ordering.{Ordering}
use Rattle.std.specs.declared.cmp.Ordering.TheVariants.{Less, Equal, Greater}
use Rattle.std.specs.Cmp.Lexicographic.{texts_ties}
use Rattle.icu_locale_core_grammar.specs.Subtags.{Text, same_text}
use Rattle.icu_locale_core_grammar.specs.Collections.{text_cmp, Entry, keys_of, Rises, put_first, value_at}
use Rattle.icu_locale_core_grammar.proofs.CollectionLemmas.{same_text_refl}
use Rattle.icu_locale_core_grammar.proofs.SetLemmas.{cmp_swapped}
use Rattle.icu_locale_core_grammar.proofs.MapLemmas.{Rises-put}
use Rattle.icu_locale_core_keywords_fields.proofs.RisingLemmas.{Rises-set, Rises-without}
use Rattle.icu_locale_core_keywords_fields.specs.EntryChanges.{set_entry, without_key}
use Rattle.icu_locale_core_keywords_fields.specs.Places.{AreBelow, AreAbove, IsFoundAt, IsMissingAt}

-- ---- the order of keys

cmp_itself : (key : Text) → text_cmp key key ≡ Equal
cmp_itself key = ties (text_cmp key key) (sym (texts_ties key key) ∙ same_text_refl key)
  where
    ties : (o : Ordering) → is_eq o ≡ true → o ≡ Equal
    ties Less e = cc
    ties Equal e = refl
    ties Greater e = cc

pub cmp_above : (a b : Text) → text_cmp a b ≡ Less → text_cmp b a ≡ Greater
cmp_above a b e = cmp_swapped b a ∙ ap ordering_reverse e

differs_below : (a b : Text) → text_cmp a b ≡ Less → same_text a b ≡ false
differs_below a b e = texts_ties a b ∙ ap is_eq e

differs_above : (a b : Text) → text_cmp b a ≡ Less → same_text a b ≡ false
differs_above a b e = texts_ties a b ∙ ap is_eq (cmp_above b a e)

-- ---- lists

set_parts : (es : List Entry) (i : ℕ) (e : Entry) → i < length es → set es i e ≡ take i es ++ e ∷ drop (suc i) es
set_parts [] i e fits = absurd (omega arith)
set_parts (f ∷ fs) zero e fits = refl
set_parts (f ∷ fs) (suc i) e fits = ap (λ l. f ∷ l) (set_parts fs i e (omega arith))

-- ---- a key above all entries before it

module _ (key : Text) where
  value_past : (front rest : List Entry) → AreBelow key front → value_at key (front ++ rest) ≡ value_at key rest
  value_past [] rest below = refl
  value_past (e ∷ es) rest below =
      ap (λ b. if b then Some e.1 else value_at key (es ++ rest)) (differs_above key e.0 below.0) ∙ value_past es rest below.1

  -- nor is it among entries that are all above it
  value_above : (es : List Entry) → AreAbove key es → value_at key es ≡ None
  value_above [] above = refl
  value_above (e ∷ es) above = ap (λ b. if b then Some e.1 else value_at key es) (differs_below key e.0 above.0) ∙ value_above es above.1

  without_below : (es : List Entry) → AreBelow key es → without_key key es ≡ es
  without_below [] below = refl
  without_below (e ∷ es) below =
      ap (λ b. cond (not b) (e ∷ without_key key es) (without_key key es)) (differs_above key e.0 below.0) ∙ ap (λ l. e ∷ l) (without_below es below.1)

  without_above : (es : List Entry) → AreAbove key es → without_key key es ≡ es
  without_above [] above = refl
  without_above (e ∷ es) above =
      ap (λ b. cond (not b) (e ∷ without_key key es) (without_key key es)) (differs_below key e.0 above.0) ∙ ap (λ l. e ∷ l) (without_above es above.1)

  module _ (value : List Text) where
    set_past : (front rest : List Entry) → AreBelow key front → set_entry (key, value) (front ++ rest) ≡ front ++ set_entry (key, value) rest
    set_past [] rest below = refl
    set_past (e ∷ es) rest below =
        ap (λ o. match_ordering o ((key, value) ∷ e ∷ (es ++ rest)) ((key, value) ∷ (es ++ rest)) (e ∷ set_entry (key, value) (es ++ rest))) (cmp_above e.0 key below.0)
        ∙ ap (λ l. e ∷ l) (set_past es rest below.1)

    put_past : (front rest : List Entry) → AreBelow key front → put_first (key, value) (front ++ rest) ≡ front ++ put_first (key, value) rest
    put_past [] rest below = refl
    put_past (e ∷ es) rest below =
        ap (λ o. match_ordering o ((key, value) ∷ e ∷ (es ++ rest)) (e ∷ (es ++ rest)) (e ∷ put_first (key, value) (es ++ rest))) (cmp_above e.0 key below.0)
        ∙ ap (λ l. e ∷ l) (put_past es rest below.1)

    set_above : (es : List Entry) → AreAbove key es → set_entry (key, value) es ≡ (key, value) ∷ es
    set_above [] above = refl
    set_above (e ∷ es) above = ap (λ o. match_ordering o ((key, value) ∷ e ∷ es) ((key, value) ∷ es) (e ∷ set_entry (key, value) es)) above.0

    put_above : (es : List Entry) → AreAbove key es → put_first (key, value) es ≡ (key, value) ∷ es
    put_above [] above = refl
    put_above (e ∷ es) above = ap (λ o. match_ordering o ((key, value) ∷ e ∷ es) (e ∷ es) (e ∷ put_first (key, value) es)) above.0

    set_here : (old : List Text) (es : List Entry) → set_entry (key, value) ((key, old) ∷ es) ≡ (key, value) ∷ es
    set_here old es = ap (λ o. match_ordering o ((key, value) ∷ (key, old) ∷ es) ((key, value) ∷ es) ((key, old) ∷ set_entry (key, value) es)) (cmp_itself key)

    put_here : (old : List Text) (es : List Entry) → put_first (key, value) ((key, old) ∷ es) ≡ (key, old) ∷ es
    put_here old es = ap (λ o. match_ordering o ((key, value) ∷ (key, old) ∷ es) ((key, old) ∷ es) ((key, old) ∷ put_first (key, value) es)) (cmp_itself key)

  value_here : (value : List Text) (es : List Entry) → value_at key ((key, value) ∷ es) ≡ Some value
  value_here value es = ap (λ b. if b then Some value else value_at key es) (same_text_refl key)

  without_here : (value : List Text) (es : List Entry) → AreAbove key es → without_key key ((key, value) ∷ es) ≡ es
  without_here value es above =
      ap (λ b. cond (not b) ((key, value) ∷ without_key key es) (without_key key es)) (same_text_refl key) ∙ without_above es above

  -- ---- the key is at place i

  module _ (es : List Entry) (i : ℕ) (found : IsFoundAt key es i) where
    pub value_found : value_at key es ≡ Some found.value
    value_found = ap (value_at key) found.parts ∙ value_past (take i es) _ found.below ∙ value_here found.value (drop (suc i) es)

    pub set_found : (value : List Text) → set_entry (key, value) es ≡ take i es ++ (key, value) ∷ drop (suc i) es
    set_found value =
        ap (set_entry (key, value)) found.parts ∙ set_past value (take i es) _ found.below
        ∙ ap (λ l. take i es ++ l) (set_here value found.value (drop (suc i) es))

    pub put_found : (value : List Text) → put_first (key, value) es ≡ es
    put_found value =
        ap (put_first (key, value)) found.parts ∙ put_past value (take i es) _ found.below
        ∙ ap (λ l. take i es ++ l) (put_here value found.value (drop (suc i) es)) ∙ sym found.parts

    pub without_found : without_key key es ≡ take i es ++ drop (suc i) es
    without_found =
        ap (without_key key) found.parts
        ∙ filter-append (λ e. not (same_text key e.0)) (take i es) ((key, found.value) ∷ drop (suc i) es)
        ∙ ap (λ l. l ++ without_key key ((key, found.value) ∷ drop (suc i) es)) (without_below (take i es) found.below)
        ∙ ap (λ l. take i es ++ l) (without_here found.value (drop (suc i) es) found.above)

    -- in the words of a list and an index
    pub value_index : (x : Entry) → x ≡ get_or es i x → Some x.1 ≡ value_at key es
    value_index x e = ap (λ f. Some f.1) (e ∙ found.at x) ∙ sym value_found

    pub set_index : (x : Entry) (value : List Text) → x ≡ get_or es i x → set es i (x.0, value) ≡ set_entry (key, value) es
    set_index x value e =
        set_parts es i (x.0, value) found.fits ∙ ap (λ f. take i es ++ (f.0, value) ∷ drop (suc i) es) (e ∙ found.at x) ∙ sym (set_found value)

    pub old_index : (x : Entry) → x ≡ get_or es i x → x.1 ≡ found.value
    old_index x e = ap (λ f. f.1) (e ∙ found.at x)

  -- ---- the key would be at place i

  module _ (es : List Entry) (i : ℕ) (missing : IsMissingAt key es i) where
    split : es ≡ take i es ++ drop i es
    split = sym (take-append-drop i es)

    pub value_missing : value_at key es ≡ None
    value_missing = ap (value_at key) split ∙ value_past (take i es) (drop i es) missing.below ∙ value_above (drop i es) missing.above

    pub set_missing : (value : List Text) → set_entry (key, value) es ≡ take i es ++ (key, value) ∷ drop i es
    set_missing value =
        ap (set_entry (key, value)) split ∙ set_past value (take i es) (drop i es) missing.below
        ∙ ap (λ l. take i es ++ l) (set_above value (drop i es) missing.above)

    pub put_missing : (value : List Text) → put_first (key, value) es ≡ take i es ++ (key, value) ∷ drop i es
    put_missing value =
        ap (put_first (key, value)) split ∙ put_past value (take i es) (drop i es) missing.below
        ∙ ap (λ l. take i es ++ l) (put_above value (drop i es) missing.above)

    pub without_missing : without_key key es ≡ es
    without_missing =
        ap (without_key key) split ∙ filter-append (λ e. not (same_text key e.0)) (take i es) (drop i es)
        ∙ ap (λ l. l ++ without_key key (drop i es)) (without_below (take i es) missing.below)
        ∙ ap (λ l. take i es ++ l) (without_above (drop i es) missing.above) ∙ sym split

  -- ---- the entries of a map, and what they are after an edit at place i

  pub value_taken : (map es : List Entry) (i : ℕ) → es ≡ map → IsFoundAt key map i → (x : Entry) → x ≡ get_or es i x → Some x.1 ≡ value_at key map
  value_taken map es i shown found x here = value_index map i found x (here ∙ ap (λ l. get_or l i x) shown)

  module _ (map es new : List Entry) (i : ℕ) (shown : es ≡ map) where
    module _ (missing : IsMissingAt key map i) (value : List Text) (edit : new ≡ insert es i (key, value)) where
      put_in : take i map ++ (key, value) ∷ drop i map ≡ new
      put_in = ap (λ l. insert l i (key, value)) (sym shown) ∙ sym edit

      pub put_inserted : new ≡ put_first (key, value) map
      put_inserted = sym (put_missing map i missing value ∙ put_in)

      pub set_inserted : new ≡ set_entry (key, value) map
      set_inserted = sym (set_missing map i missing value ∙ put_in)

      pub rises_inserted : Rises (keys_of es) → Rises (keys_of new)
      rises_inserted rises = subst (λ l. Rises (keys_of l)) (sym put_inserted) (Rises-put (key, value) map (subst (λ l. Rises (keys_of l)) shown rises))

    module _ (found : IsFoundAt key map i) where
      module _ (x : Entry) (here : x ≡ get_or es i x) (value : List Text) (edit : new ≡ set es i (x.0, value)) where
        pub set_replaced : new ≡ set_entry (key, value) map
        set_replaced = edit ∙ ap (λ l. set l i (x.0, value)) shown ∙ set_index map i found x value (here ∙ ap (λ l. get_or l i x) shown)

        pub rises_replaced : Rises (keys_of es) → Rises (keys_of new)
        rises_replaced rises = subst (λ l. Rises (keys_of l)) (sym set_replaced) (Rises-set (key, value) map (subst (λ l. Rises (keys_of l)) shown rises))

      module _ (edit : new ≡ remove es i) where
        pub without_removed : new ≡ without_key key map
        without_removed = edit ∙ ap (λ l. remove l i) shown ∙ sym (without_found map i found)

        pub rises_removed : Rises (keys_of es) → Rises (keys_of new)
        rises_removed rises = subst (λ l. Rises (keys_of l)) (sym without_removed) (Rises-without key map (subst (λ l. Rises (keys_of l)) shown rises))

  -- ---- whether the map has the key

  pub holds_key : (es : List Entry) (r : Result ℕ ℕ) → MatchResult r (IsFoundAt key es) (IsMissingAt key es) → is_ok r ≡ is_some (value_at key es)
  holds_key es (Ok i) found = sym (ap is_some (value_found es i found))
  holds_key es (Err i) missing = sym (ap is_some (value_missing es i missing))
