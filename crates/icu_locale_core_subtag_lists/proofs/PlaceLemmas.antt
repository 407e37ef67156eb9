-- What a search of a rising list tells of the text in it, and of the list with one more text or one less.
use Rattle.std.proofs.Common.{◌≡◌, ℕ, zero, suc, ◌+◌, ◌<◌, ◌≤◌, Bool, true, false, not, ◌||◌, List, [], ◌∷◌, ◌++◌, length, take, drop, get_or, cond, Result, Ok, Err, MatchResult, sym, refl, ap, ◌∙◌, subst, arith}
use Rattle.std.specs.List.{AllByRecursion, AllWithin, HoldsAt, IsDistinct, insert, remove}
use Rattle.std.specs.List.Sorted.{IsStrictlySortedBy, IsNonDecreasingBy, IsPartitionPoint, IsSearchInRange, IsBinarySearchResult}
use Rattle.std.specs.Ordering.{match_ordering, ordering_reverse, ordering_index, is_eq, is_lt}
use Rattle.std.specs.declared.cmp.Ordering.{Ordering}
use Rattle.std.specs.declared.cmp.Ordering.TheVariants.{Less, Equal, Greater}
use Rattle.std.specs.Cmp.Lexicographic.{texts_ties, nat_list_cmp_total}
use Rattle.std.proofs.lemmas.Bool.{or_from, or_right}
use Rattle.std.proofs.lemmas.List.{take-append-drop}
use Rattle.std.proofs.lemmas.List.Sorted.{searchable_from_sorted}
use Rattle.std.proofs.lemmas.Map.Keys.{Less-from_sorted}
use Rattle.std.proofs.Math.Seq.{drop-cons}
use Rattle.icu_locale_core_grammar.specs.Subtags.{Text, same_text}
use Rattle.icu_locale_core_grammar.specs.Collections.{text_cmp, contains_text, AreApart, Rises, insert_text}
use Rattle.icu_locale_core_grammar.specs.WellFormed.{IsNormalPiece}
use Rattle.icu_locale_core_grammar.proofs.CollectionLemmas.{same_text_swapped, same_text_refl, none_same, apart_new, contains-append}
use Rattle.icu_locale_core_grammar.proofs.ListLemmas.{each_weaker}
use Rattle.icu_locale_core_grammar.proofs.SetLemmas.{cmp_equal, cmp_swapped, cmp_through, absent, contains_first, Rises-insert}
use Rattle.icu_locale_core_grammar.proofs.NormalBodies.{apart_from_rising}
use Rattle.icu_locale_core_grammar.proofs.MapLemmas.{rises_none, each_inserted}
use Rattle.icu_locale_core_subtag_lists.specs.SubtagSets.{remove_text, IsSubtagSet}
use Rattle.icu_locale_core_subtag_lists.specs.Places.{StandsAt, BelongsAt}

-- ---- what holds at each place holds of each text

each_within : {X : Type 0} (P : X → Type 0) (xs : List X) → AllWithin P xs 0 (length xs) → AllByRecursion P xs
each_within P [] all = tt
each_within P (x ∷ xs) all = (all 0 x (omega arith) (omega arith), each_within P xs (λ k d low high. all (suc k) d (omega arith) (omega arith)))

each_before : {X : Type 0} (P : X → Type 0) (xs : List X) (i : ℕ) → i ≤ length xs → AllWithin P xs 0 i → AllByRecursion P (take i xs)
each_before P xs zero within all = tt
each_before P [] (suc i) within all = absurd (omega arith)
each_before P (x ∷ xs) (suc i) within all = (all 0 x (omega arith) (omega arith), each_before P xs i (omega arith) (λ k d low high. all (suc k) d (omega arith) (omega arith)))

each_after : {X : Type 0} (P : X → Type 0) (xs : List X) (i : ℕ) → AllWithin P xs i (length xs) → AllByRecursion P (drop i xs)
each_after P xs zero all = each_within P xs all
each_after P [] (suc i) all = tt
each_after P (x ∷ xs) (suc i) all = each_after P xs i (λ k d low high. all (suc k) d (omega arith) (omega arith))

-- ---- a rising list can be searched

not_below : (a b : Text) → text_cmp a b ≡ Less → is_lt (text_cmp b a) ≡ false
not_below a b e = ap is_lt (cmp_swapped b a ∙ ap ordering_reverse e)

pub searchable : (t : Text) (us : List Text) → Rises us → IsNonDecreasingBy (λ u. ordering_index (text_cmp u t)) us
searchable t us rises =
    searchable_from_sorted nat_list_cmp_total (λ u. u) us t
    (λ k d low high. not_below (get_or us k d) (get_or us (k + 1) d) (Less-from_sorted text_cmp us k (k + 1) d rises (omega arith) high))

-- ---- a text that is not there

missed : (t u : Text) (o : Ordering) → text_cmp u t ≡ o → is_eq o ≡ false → same_text t u ≡ false
missed t u o e apart = same_text_swapped t u ∙ texts_ties u t ∙ ap is_eq e ∙ apart

contains_below : (t : Text) (us : List Text) → AllByRecursion (λ u. text_cmp u t ≡ Less) us → contains_text t us ≡ false
contains_below t [] each = refl
contains_below t (u ∷ us) each = or_from (same_text t u) (contains_text t us) (missed t u Less each.0 refl) (contains_below t us each.1)

contains_above : (t : Text) (us : List Text) → AllByRecursion (λ u. text_cmp u t ≡ Greater) us → contains_text t us ≡ false
contains_above t [] each = refl
contains_above t (u ∷ us) each = or_from (same_text t u) (contains_text t us) (missed t u Greater each.0 refl) (contains_above t us each.1)

contains_between : (t : Text) (front back : List Text) → AllByRecursion (λ u. text_cmp u t ≡ Less) front → AllByRecursion (λ u. text_cmp u t ≡ Greater) back
    → contains_text t (front ++ back) ≡ false
contains_between t front back below above =
    contains-append t front back ∙ or_from (contains_text t front) (contains_text t back) (contains_below t front below) (contains_above t back above)

insert_between : (t : Text) (front back : List Text) → AllByRecursion (λ u. text_cmp u t ≡ Less) front → AllByRecursion (λ u. text_cmp u t ≡ Greater) back
    → insert_text t (front ++ back) ≡ front ++ t ∷ back
insert_between t [] [] below above = refl
insert_between t [] (u ∷ us) below above = ap (λ o. match_ordering o (t ∷ u ∷ us) (u ∷ us) (u ∷ insert_text t us)) (cmp_swapped t u ∙ ap ordering_reverse above.0)
insert_between t (u ∷ us) back below above =
    ap (λ o. match_ordering o (t ∷ u ∷ (us ++ back)) (u ∷ (us ++ back)) (u ∷ insert_text t (us ++ back))) (cmp_swapped t u ∙ ap ordering_reverse below.0)
    ∙ ap (λ l. u ∷ l) (insert_between t us back below.1 above)

-- at the place that a search gives
pub contains_at_gap : (t : Text) (us : List Text) (i : ℕ) → i ≤ length us → AllWithin (λ u. text_cmp u t ≡ Less) us 0 i → AllWithin (λ u. text_cmp u t ≡ Greater) us i (length us)
    → contains_text t us ≡ false
contains_at_gap t us i within below above =
    ap (contains_text t) (sym (take-append-drop i us)) ∙ contains_between t (take i us) (drop i us) (each_before _ us i within below) (each_after _ us i above)

pub insert_at_gap : (t : Text) (us : List Text) (i : ℕ) → i ≤ length us → AllWithin (λ u. text_cmp u t ≡ Less) us 0 i → AllWithin (λ u. text_cmp u t ≡ Greater) us i (length us)
    → insert us i t ≡ insert_text t us
insert_at_gap t us i within below above =
    sym (ap (insert_text t) (sym (take-append-drop i us)) ∙ insert_between t (take i us) (drop i us) (each_before _ us i within below) (each_after _ us i above))

-- ---- a text that is there

found : (t : Text) (us : List Text) (i : ℕ) → i < length us → HoldsAt (λ u. text_cmp u t ≡ Equal) us i → us ≡ take i us ++ t ∷ drop (suc i) us
found t us i within at =
    sym (take-append-drop i us) ∙ ap (λ l. take i us ++ l) (drop-cons us i t within)
    ∙ ap (λ u. take i us ++ u ∷ drop (suc i) us) (cmp_equal (get_or us i t) t (at t))

contains_amid : (t : Text) (front back : List Text) → contains_text t (front ++ t ∷ back) ≡ true
contains_amid t [] back = contains_first t back
contains_amid t (u ∷ us) back = or_right (same_text t u) (contains_text t (us ++ t ∷ back)) (contains_amid t us back)

pub contains_at : (t : Text) (us : List Text) (i : ℕ) → i < length us → HoldsAt (λ u. text_cmp u t ≡ Equal) us i → contains_text t us ≡ true
contains_at t us i within at = ap (contains_text t) (found t us i within at) ∙ contains_amid t (take i us) (drop (suc i) us)

-- a text that a set has changes nothing
pub insert_contained : (t : Text) (us : List Text) → Rises us → contains_text t us ≡ true → insert_text t us ≡ us
unfolding IsStrictlySortedBy
insert_contained t [] rises there = cc
insert_contained t (u ∷ us) rises there = by_order (text_cmp t u) refl (λ below. insert_contained t us rises.1 (in_rest below))
  where
    in_rest : text_cmp t u ≡ Greater → contains_text t us ≡ true
    in_rest e = sym (ap (λ b. b || contains_text t us) (texts_ties t u ∙ ap is_eq e)) ∙ there

    below_all : text_cmp t u ≡ Less → contains_text t (u ∷ us) ≡ false
    below_all e = absent t (u ∷ us) (e, each_weaker (λ v. text_cmp u v ≡ Less) (λ v. text_cmp t v ≡ Less) (λ v f. cmp_through t u v e f) us rises.0)

    by_order : (o : Ordering) → text_cmp t u ≡ o → (text_cmp t u ≡ Greater → insert_text t us ≡ us) → match_ordering o (t ∷ u ∷ us) (u ∷ us) (u ∷ insert_text t us) ≡ u ∷ us
    by_order Less e more = let no : contains_text t (u ∷ us) ≡ false = below_all e in cc
    by_order Equal e more = refl
    by_order Greater e more = ap (λ l. u ∷ l) (more e)

-- ---- a text that goes

remove_absent : (t : Text) (us : List Text) → contains_text t us ≡ false → remove_text t us ≡ us
remove_absent t [] none = refl
remove_absent t (u ∷ us) none = by (same_text t u) none (remove_absent t us)
  where
    by : (b : Bool) → (b || contains_text t us) ≡ false → (contains_text t us ≡ false → remove_text t us ≡ us) → cond (not b) (u ∷ remove_text t us) (remove_text t us) ≡ u ∷ us
    by true none more = cc
    by false none more = ap (λ l. u ∷ l) (more none)

remove-append : (t : Text) (us vs : List Text) → remove_text t (us ++ vs) ≡ remove_text t us ++ remove_text t vs
remove-append t [] vs = refl
remove-append t (u ∷ us) vs = by (not (same_text t u)) (remove-append t us vs)
  where
    by : (b : Bool) → remove_text t (us ++ vs) ≡ remove_text t us ++ remove_text t vs
        → cond b (u ∷ remove_text t (us ++ vs)) (remove_text t (us ++ vs)) ≡ cond b (u ∷ remove_text t us) (remove_text t us) ++ remove_text t vs
    by true more = ap (λ l. u ∷ l) more
    by false more = more

apart_after : (t : Text) (front back : List Text) → AreApart (front ++ t ∷ back) → contains_text t back ≡ false
unfolding IsDistinct
apart_after t [] back apart = none_same t back apart.0
apart_after t (u ∷ us) back apart = apart_after t us back apart.1

remove_amid : (t : Text) (front back : List Text) → AreApart (front ++ t ∷ back) → remove_text t (front ++ t ∷ back) ≡ front ++ back
remove_amid t front back apart =
    let first : contains_text t front ≡ false = apart_new front t back apart in
    let last : contains_text t back ≡ false = apart_after t front back apart in
    remove-append t front (t ∷ back)
    ∙ ap (λ l. remove_text t front ++ l) (ap (λ b. cond (not b) (t ∷ remove_text t back) (remove_text t back)) (same_text_refl t))
    ∙ (λ i. remove_absent t front first i ++ remove_absent t back last i)

-- at the place that a search gives
pub remove_at : (t : Text) (us : List Text) (i : ℕ) → Rises us → i < length us → HoldsAt (λ u. text_cmp u t ≡ Equal) us i → remove us i ≡ remove_text t us
remove_at t us i rises within at =
    let split : us ≡ take i us ++ t ∷ drop (suc i) us = found t us i within at in
    sym (ap (remove_text t) split ∙ remove_amid t (take i us) (drop (suc i) us) (subst AreApart split (apart_from_rising us rises)))

-- a text that is not there
pub remove_at_gap : (t : Text) (us : List Text) (i : ℕ) → i ≤ length us → AllWithin (λ u. text_cmp u t ≡ Less) us 0 i → AllWithin (λ u. text_cmp u t ≡ Greater) us i (length us)
    → remove_text t us ≡ us
remove_at_gap t us i within below above = remove_absent t us (contains_at_gap t us i within below above)

-- what holds of each text holds of each that stays
pub each_kept : (P : Text → Type 0) (t : Text) (us : List Text) → AllByRecursion P us → AllByRecursion P (remove_text t us)
each_kept P t [] each = tt
each_kept P t (u ∷ us) each = by (not (same_text t u)) (each_kept P t us each.1)
  where
    by : (b : Bool) → AllByRecursion P (remove_text t us) → AllByRecursion P (cond b (u ∷ remove_text t us) (remove_text t us))
    by true more = (each.0, more)
    by false more = more

pub Rises-remove : (t : Text) (us : List Text) → Rises us → Rises (remove_text t us)
unfolding IsStrictlySortedBy
Rises-remove t [] rises = tt
Rises-remove t (u ∷ us) rises = by (not (same_text t u)) (each_kept (λ v. text_cmp u v ≡ Less) t us rises.0) (Rises-remove t us rises.1)
  where
    by : (b : Bool) → AllByRecursion (λ v. text_cmp u v ≡ Less) (remove_text t us) → Rises (remove_text t us) → Rises (cond b (u ∷ remove_text t us) (remove_text t us))
    by true above more = (above, more)
    by false above more = more

-- ---- what a search answers

pub stands_at : (t : Text) (us : List Text) (i : ℕ) → Rises us → i < length us → HoldsAt (λ u. text_cmp u t ≡ Equal) us i → StandsAt t us i
stands_at t us i rises within at = record {
  within = within;
  there = contains_at t us i within at;
  kept = insert_contained t us rises (contains_at t us i within at);
  rest = remove_at t us i rises within at;
}

pub belongs_at : (t : Text) (us : List Text) (i : ℕ) → i ≤ length us → IsPartitionPoint (λ u. text_cmp u t ≡ Less) (λ u. text_cmp u t ≡ Greater) us i → BelongsAt t us i
belongs_at t us i within point = record {
  within = within;
  missing = contains_at_gap t us i within point.0 point.1;
  more = insert_at_gap t us i within point.0 point.1;
  same = remove_at_gap t us i within point.0 point.1;
}

pub place_found : (t : Text) (us : List Text) (r : Result ℕ ℕ) → Rises us → IsSearchInRange r (length us) → IsBinarySearchResult (λ u. text_cmp u t) us r
    → MatchResult r (StandsAt t us) (BelongsAt t us)
place_found t us (Ok i) rises within at = stands_at t us i rises within at
place_found t us (Err i) rises within point = belongs_at t us i within (point (searchable t us rises))

-- ---- what every set of subtags keeps

module _ {accepts : List ℕ → Bool} {normal : List ℕ → List ℕ} where
  pub no_subtags : IsSubtagSet accepts normal []
  no_subtags = record { rises = rises_none; each = tt }

  pub subtag_inserted : (t : Text) (us : List Text) → accepts t ≡ true → normal t ≡ t → IsSubtagSet accepts normal us → IsSubtagSet accepts normal (insert_text t us)
  subtag_inserted t us is same set = record {
    rises = Rises-insert t us set.rises;
    each = each_inserted (IsNormalPiece accepts normal) t us (record { is = is; same = same }) set.each;
  }

  pub subtag_removed : (t : Text) (us : List Text) → IsSubtagSet accepts normal us → IsSubtagSet accepts normal (remove_text t us)
  subtag_removed t us set = record { rises = Rises-remove t us set.rises; each = each_kept (IsNormalPiece accepts normal) t us set.each }
