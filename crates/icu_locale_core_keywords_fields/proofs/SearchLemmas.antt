-- What a binary search for a key tells of a list of entries whose keys rise.
use Rattle.std.proofs.Common.{ℕ, zero, suc, ◌≡◌, ◌<◌, ◌≤◌, List, [], ◌∷◌, length, get_or, ap, subst, arith, add-one}
use Rattle.std.specs.Prelude.{Result, Ok, Err, MatchResult}
use Rattle.std.specs.List.{AllByRecursion, AllWithin, HoldsAt}
use Rattle.std.specs.List.Sorted.{IsStrictlySortedBy, IsNonDecreasingBy, IsPartitionPoint, IsSearchInRange, IsBinarySearchResult}
use Rattle.std.specs.Ordering.{ordering_index, is_lt}
use Rattle.std.specs.Cmp.Lexicographic.{nat_list_cmp_total}
use Rattle.std.proofs.lemmas.List.Sorted.{searchable_from_sorted}
use Rattle.std.specs.declared.cmp.Ordering.TheVariants.{Less, Equal, Greater}
use Rattle.icu_locale_core_grammar.specs.Subtags.{Text}
use Rattle.icu_locale_core_grammar.specs.Collections.{text_cmp, Entry, keys_of, Rises}
use Rattle.icu_locale_core_grammar.proofs.SetLemmas.{cmp_equal, cmp_below}
use Rattle.icu_locale_core_keywords_fields.proofs.PlaceLemmas.{cmp_above}
use Rattle.icu_locale_core_keywords_fields.specs.Places.{AreAbove, IsFoundAt, IsMissingAt}

-- each key is below the next
next_above : (es : List Entry) → Rises (keys_of es) → (k : ℕ) (d : Entry) → suc k < length es → text_cmp (get_or es k d).0 (get_or es (suc k) d).0 ≡ Less
unfolding IsStrictlySortedBy
next_above [] rises k d fits = absurd (omega arith)
next_above (e ∷ []) rises k d fits = absurd (omega arith)
next_above (e ∷ f ∷ es) rises zero d fits = rises.0.0
next_above (e ∷ f ∷ es) rises (suc k) d fits = next_above (f ∷ es) rises.1 k d (omega arith)

module _ (key : Text) where
  -- ---- found

  -- what holds of each key holds of this one
  of_key : (P : Text → Type 0) (es : List Entry) (i : ℕ) → i < length es → HoldsAt (λ e. text_cmp e.0 key ≡ Equal) es i → AllByRecursion P (keys_of es) → P key
  of_key P [] i fits at each = absurd (omega arith)
  of_key P (e ∷ es) zero fits at each = subst P (cmp_equal e.0 key (at e)) each.0
  of_key P (e ∷ es) (suc i) fits at each = of_key P es i (omega arith) at each.1

  entries_above : (low : Text) (es : List Entry) → AllByRecursion (λ k. text_cmp low k ≡ Less) (keys_of es) → low ≡ key → AreAbove key es
  entries_above low [] each same = tt
  entries_above low (e ∷ es) each same = (subst (λ k. text_cmp k e.0 ≡ Less) same each.0, entries_above low es each.1 same)

  found_at : (es : List Entry) (i : ℕ) → i < length es → HoldsAt (λ e. text_cmp e.0 key ≡ Equal) es i → Rises (keys_of es) → IsFoundAt key es i
  unfolding IsStrictlySortedBy
  found_at [] i fits at rises = absurd (omega arith)
  found_at (e ∷ es) zero fits at rises =
      let same : e.0 ≡ key = cmp_equal e.0 key (at e) in
      record { value = e.1; fits = fits; at = λ d. ap (λ k. (k, e.1)) same; parts = ap (λ k. (k, e.1) ∷ es) same; below = tt; above = entries_above e.0 es rises.0 same }
  found_at (e ∷ es) (suc i) fits at rises =
      let more = found_at es i (omega arith) at rises.1 in
      record {
        value = more.value;
        fits = fits;
        at = more.at;
        parts = ap (λ l. e ∷ l) more.parts;
        below = (of_key (λ k. text_cmp e.0 k ≡ Less) es i (omega arith) at rises.0, more.below);
        above = more.above;
      }

  -- ---- missing

  all_above : (es : List Entry) → AllWithin (λ e. text_cmp e.0 key ≡ Greater) es 0 (length es) → AreAbove key es
  all_above [] each = tt
  all_above (e ∷ es) each = (cmp_below e.0 key (each 0 e (omega arith) (omega arith)), all_above es (λ k d low high. each (suc k) d (omega arith) (omega arith)))

  missing_at : (es : List Entry) (i : ℕ) → i ≤ length es → IsPartitionPoint (λ e. text_cmp e.0 key ≡ Less) (λ e. text_cmp e.0 key ≡ Greater) es i → IsMissingAt key es i
  missing_at es zero fits point = record { fits = fits; below = tt; above = all_above es point.1 }
  missing_at [] (suc i) fits point = absurd (omega arith)
  missing_at (e ∷ es) (suc i) fits point =
      let more = missing_at es i (omega arith) (λ k d low high. point.0 (suc k) d (omega arith) (omega arith), λ k d low high. point.1 (suc k) d (omega arith) (omega arith)) in
      record { fits = fits; below = (point.0 0 e (omega arith) (omega arith), more.below); above = more.above }

  -- ---- entries whose keys rise can be searched

  searchable : (es : List Entry) → Rises (keys_of es) → IsNonDecreasingBy (λ e. ordering_index (text_cmp e.0 key)) es
  searchable es rises =
      searchable_from_sorted nat_list_cmp_total (λ e. e.0) es key
      (λ k d low high. rw add-one (ap is_lt (cmp_above (get_or es k d).0 (get_or es (suc k) d).0 (next_above es rises k d (omega arith)))))

  found_or_missing : (es : List Entry) (r : Result ℕ ℕ) → Rises (keys_of es) → IsSearchInRange r (length es) → IsBinarySearchResult (λ e. text_cmp e.0 key) es r
      → MatchResult r (IsFoundAt key es) (IsMissingAt key es)
  found_or_missing es (Ok i) rises fits found = found_at es i fits found rises
  found_or_missing es (Err i) rises fits point = missing_at es i fits (point (searchable es rises))

  -- the map, its entries, and the slice of them that was searched
  pub searched : (map es slice : List Entry) (r : Result ℕ ℕ) → es ≡ map → slice ≡ es → Rises (keys_of es) → IsSearchInRange r (length slice) → IsBinarySearchResult (λ e. text_cmp e.0 key) slice r
      → MatchResult r (IsFoundAt key map) (IsMissingAt key map)
  searched map es slice r same shown rises fits found =
      let fits' : IsSearchInRange r (length es) = subst (λ l. IsSearchInRange r (length l)) shown fits in
      let found' : IsBinarySearchResult (λ e. text_cmp e.0 key) es r = subst (λ l. IsBinarySearchResult (λ e. text_cmp e.0 key) l r) shown found in
      subst (λ l. MatchResult r (IsFoundAt key l) (IsMissingAt key l)) same (found_or_missing es r rises fits' found')
