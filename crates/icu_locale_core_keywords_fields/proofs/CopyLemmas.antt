-- Entries put into a map one by one: of those at places from i on, what is still to be put.
use Rattle.std.proofs.Common.{◌≡◌, ℕ, ◌+◌, ◌<◌, ◌≤◌, true, List, [], ◌∷◌, ◌++◌, arith, ◌==◌, length, drop, get_or, fold, sym, ap, ◌∙◌}
use Rattle.std.proofs.lemmas.Bool.{eqb-true}
use Rattle.std.proofs.lemmas.List.{drop_more, drop_all, nil_from_length}
use Rattle.icu_locale_core_grammar.specs.Subtags.{Text}
use Rattle.icu_locale_core_grammar.specs.Collections.{Entry, keys_of, Rises, put_first, map_of}
use Rattle.icu_locale_core_grammar.proofs.ListLemmas.{fold-append}
use Rattle.icu_locale_core_grammar.proofs.MapLemmas.{put_entry, map_of_rising}
use Rattle.icu_locale_core_keywords_fields.specs.EntryChanges.{joined_maps}

module _ (es : List Entry) (i : ℕ) (whole : List Entry) where
  -- what is put so far, with what is still to be put, is the whole
  abbrev pub IsCopying : List Entry → Type 0
  IsCopying m = fold put_entry m (drop i es) ≡ whole

  pub copying_goes_on : (m n : List Entry) (e : Entry) (key : Text) (value : List Text) → IsCopying m → i < length es → e ≡ get_or es i e → key ≡ e.0 → value ≡ e.1 → n ≡ put_first (key, value) m
      → fold put_entry n (drop (i + 1) es) ≡ whole
  copying_goes_on m n e key value so_far within here same_key same_value put =
      ap (λ l. fold put_entry l (drop (i + 1) es)) (put ∙ ap (λ k. put_first (k, value) m) same_key ∙ ap (λ v. put_first (e.0, v) m) same_value)
      ∙ ap (λ f. fold put_entry (put_first f m) (drop (i + 1) es)) here ∙ ap (fold put_entry m) (sym (drop_more es i e within)) ∙ so_far

  pub copying_ends : (m : List Entry) → IsCopying m → length es ≤ i → m ≡ whole
  copying_ends m so_far past = sym (ap (fold put_entry m) (drop_all i es past)) ∙ so_far

-- a map whose keys rise, with the entries of another after it
pub joined_rising : (winners es slice : List Entry) → Rises (keys_of winners) → slice ≡ es → fold put_entry winners slice ≡ joined_maps winners es
joined_rising winners es slice rises same =
    ap (fold put_entry winners) same ∙ ap (λ l. fold put_entry l es) (sym (map_of_rising winners rises)) ∙ sym (fold-append put_entry [] winners es)

-- a map put over by an empty one
pub none_joined : (winners es : List Entry) → (length winners == 0) ≡ true → Rises (keys_of es) → es ≡ joined_maps winners es
none_joined winners es none rises =
    let empty : winners ≡ [] = nil_from_length winners (eqb-true (length winners) 0 none) in
    sym (ap (λ l. joined_maps l es) empty ∙ map_of_rising es rises)

pub copied_rising : (es slice : List Entry) → Rises (keys_of slice) → slice ≡ es → map_of slice ≡ es
copied_rising es slice rises same = map_of_rising slice rises ∙ same

-- the map of some entries, and of one more
pub map_of-push : (m n es : List Entry) (e : Entry) → m ≡ map_of es → n ≡ put_first e m → n ≡ map_of (es ++ e ∷ [])
map_of-push m n es e so_far put = put ∙ ap (put_first e) so_far ∙ sym (fold-append put_entry [] es (e ∷ []))

-- a map without an entry has no place
pub no_place : (items es : List Entry) (i : ℕ) → items ≡ es → es ≡ [] → i < length items → ⊥
no_place items es i same none within = let e : length items ≡ 0 = ap length (same ∙ none) in omega (arith, e)
