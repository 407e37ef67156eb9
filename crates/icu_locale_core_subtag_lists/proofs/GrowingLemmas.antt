-- A set that grows: what a search of its texts tells, one text more, and its texts in order.
use Rattle.std.proofs.Common.{◌≡◌, ℕ, ◌+◌, ◌<◌, ◌≤◌, Bool, true, false, ◌||◌, ◌==◌, List, [], ◌∷◌, ◌++◌, length, take, drop, get_or, sym, refl, ap, ◌∙◌, subst, arith, length-append}
use Rattle.std.specs.List.{AllByRecursion, IsDistinct, list_any}
use Rattle.std.specs.List.Sorted.{IsPermutation, IsSorted}
use Rattle.std.specs.Ordering.{match_ordering, ordering_reverse, is_eq, is_lt}
use Rattle.std.specs.BTreeMap.{is_at}
use Rattle.std.specs.BTreeSet.{insert_key}
use Rattle.std.specs.declared.cmp.Ordering.{Ordering}
use Rattle.std.specs.declared.cmp.Ordering.TheVariants.{Less, Equal, Greater}
use Rattle.std.specs.Cmp.Lexicographic.{texts_ties, nat_list_cmp_total}
use Rattle.std.proofs.lemmas.Bool.{eqb-true, false_from_ne_true}
use Rattle.std.proofs.lemmas.List.{take-append-drop, drop-append-le, drop_all}
use Rattle.std.proofs.lemmas.List.Sorted.{list_any-IsPermutation}
use Rattle.std.proofs.lemmas.Map.Keys.{IsDistinct-IsPermutation, apart_from_distinct, sorted_from_all_adjacent}
use Rattle.icu_locale_core_grammar.specs.Subtags.{Text, same_text}
use Rattle.icu_locale_core_grammar.specs.Collections.{text_cmp, contains_text, AreApart, Rises, insert_text, set_of}
use Rattle.icu_locale_core_grammar.specs.WellFormed.{IsNormalPiece}
use Rattle.icu_locale_core_grammar.proofs.CollectionLemmas.{same_text_swapped, same_text_refl, AreApart-push, contains-append}
use Rattle.icu_locale_core_grammar.proofs.ListLemmas.{fold-append, each-append}
use Rattle.icu_locale_core_grammar.proofs.SetLemmas.{put_text, cmp_swapped, contains-set_of, Rises-set_of, rising_same}
use Rattle.icu_locale_core_grammar.proofs.MapLemmas.{each_in_set}
use Rattle.icu_locale_core_subtag_lists.specs.SubtagSets.{IsSubtagSet}
use Rattle.icu_locale_core_subtag_lists.specs.Growing.{few, IsGrowing}

-- ---- searches

-- texts that are looked through
pub looked_through : (t : Text) (ts : List Text) → list_any (λ u. same_text u t) ts ≡ contains_text t ts
looked_through t [] = refl
looked_through t (u ∷ us) = λ i. same_text_swapped u t i || looked_through t us i

-- texts in order
pub looked_up : (t : Text) (ts : List Text) → list_any (is_at (text_cmp t)) ts ≡ contains_text t ts
looked_up t [] = refl
looked_up t (u ∷ us) = λ i. sym (texts_ties t u) i || looked_up t us i

-- all of them
pub found_in_few : (t : Text) (items : List Text) → list_any (λ u. same_text u t) items ≡ contains_text t (set_of items)
found_in_few t items = looked_through t items ∙ sym (contains-set_of t items)

-- the first of them, and those after
found_in_many : (t : Text) (items known : List Text) → known ≡ set_of (drop few items)
    → (list_any (λ u. same_text u t) (take few items) || list_any (is_at (text_cmp t)) known) ≡ contains_text t (set_of items)
found_in_many t items known searched =
    let behind : list_any (is_at (text_cmp t)) known ≡ contains_text t (drop few items) =
    looked_up t known ∙ ap (contains_text t) searched ∙ contains-set_of t (drop few items) in
    (λ i. looked_through t (take few items) i || behind i)
    ∙ sym (contains-append t (take few items) (drop few items)) ∙ ap (contains_text t) (take-append-drop few items) ∙ sym (contains-set_of t items)

pub found_in_front : (t : Text) (items known : List Text) (found : Bool) → known ≡ set_of (drop few items) → found ≡ list_any (λ u. same_text u t) (take few items) → found ≡ true
    → found ≡ contains_text t (set_of items)
found_in_front t items known found searched front there =
    there ∙ ap (λ b. b || list_any (is_at (text_cmp t)) known) (sym there ∙ front) ∙ found_in_many t items known searched

pub found_after : (t : Text) (items known : List Text) (found known_too : Bool) → known ≡ set_of (drop few items) → found ≡ list_any (λ u. same_text u t) (take few items) → found ≡ false
    → known_too ≡ list_any (is_at (text_cmp t)) known → known_too ≡ contains_text t (set_of items)
found_after t items known found known_too searched front missing back =
    back ∙ ap (λ b. b || list_any (is_at (text_cmp t)) known) (sym missing ∙ front) ∙ found_in_many t items known searched

-- no text in the list is no text in the set
filled : (t : Text) (ts : List Text) → (length (t ∷ ts) == 0) ≡ false
filled t ts = false_from_ne_true (length (t ∷ ts) == 0) (λ e. let wrong : length (t ∷ ts) ≡ 0 = eqb-true (length (t ∷ ts)) 0 e in omega (arith, wrong))

filled_by : (t : Text) (us : List Text) → contains_text t us ≡ true → (length us == 0) ≡ false
filled_by t [] there = cc
filled_by t (u ∷ us) there = filled u us

pub no_item : (items : List Text) → (length items == 0) ≡ (length (set_of items) == 0)
no_item [] = refl
no_item (t ∷ ts) = filled t ts ∙ sym (filled_by t (set_of (t ∷ ts)) (contains-set_of t (t ∷ ts) ∙ ap (λ b. b || contains_text t ts) (same_text_refl t)))

-- ---- one text more

pub one_more : (items : List Text) (t : Text) → set_of (items ++ t ∷ []) ≡ insert_text t (set_of items)
one_more items t = fold-append put_text [] items (t ∷ [])

inserted_alike : (t : Text) (us : List Text) → insert_key text_cmp us t ≡ insert_text t us
inserted_alike t [] = refl
inserted_alike t (u ∷ us) = ap (λ l. match_ordering (text_cmp t u) (t ∷ u ∷ us) (u ∷ us) (u ∷ l)) (inserted_alike t us)

none_behind : (items : List Text) → length items ≤ few → set_of (drop few items) ≡ []
none_behind items within = ap set_of (drop_all few items within)

module _ {accepts : List ℕ → Bool} {normal : List ℕ → List ℕ} (items known : List Text) (t : Text) where
  module _ (growing : IsGrowing accepts normal items known) (is : accepts t ≡ true) (same : normal t ≡ t) (new : contains_text t (set_of items) ≡ false) where
    abbrev more_each : AllByRecursion (IsNormalPiece accepts normal) (items ++ t ∷ [])
    more_each = each-append (IsNormalPiece accepts normal) items (t ∷ []) growing.each (record { is = is; same = same }, tt)

    abbrev more_apart : AreApart (items ++ t ∷ [])
    more_apart = AreApart-push items t growing.apart (sym (contains-set_of t items) ∙ new)

    -- among the first few
    pub grown_few : length items < few → IsGrowing accepts normal (items ++ t ∷ []) known
    grown_few within = record {
      each = more_each;
      apart = more_apart;
      searched = growing.searched ∙ none_behind items (omega arith) ∙ sym (none_behind (items ++ t ∷ []) (omega (arith, length-append items (t ∷ []))));
    }

    -- after them
    pub grown_many : (many : List Text) → few ≤ length items → many ≡ insert_key text_cmp known t → IsGrowing accepts normal (items ++ t ∷ []) many
    grown_many many past put = record {
      each = more_each;
      apart = more_apart;
      searched =
          put ∙ inserted_alike t known ∙ ap (insert_text t) growing.searched ∙ sym (one_more (drop few items) t)
          ∙ ap set_of (sym (drop-append-le few items (t ∷ []) past));
    }

-- ---- in order

below_next : (t u : Text) → is_lt (text_cmp u t) ≡ false → same_text t u ≡ false → text_cmp t u ≡ Less
below_next t u above apart = by_order (text_cmp t u) refl
  where
    by_order : (o : Ordering) → text_cmp t u ≡ o → o ≡ Less
    by_order Less e = refl
    by_order Equal e = let wrong : true ≡ false = sym (texts_ties t u ∙ ap is_eq e) ∙ apart in cc
    by_order Greater e = let wrong : true ≡ false = sym (ap is_lt (cmp_swapped u t ∙ ap ordering_reverse e)) ∙ above in cc

sorted_rises : (ts : List Text) → AreApart ts → IsSorted text_cmp ts → Rises ts
sorted_rises ts apart sorted =
    sorted_from_all_adjacent nat_list_cmp_total ts []
    (λ k within. below_next (get_or ts k []) (get_or ts (k + 1) []) (sorted k [] (omega arith) within) (apart_from_distinct same_text ts k (k + 1) [] apart (omega arith) within))

pub sorted_is_set : (items ts : List Text) → AreApart items → IsPermutation items ts → IsSorted text_cmp ts → ts ≡ set_of items
sorted_is_set items ts apart moved sorted =
    rising_same ts (set_of items) (sorted_rises ts (IsDistinct-IsPermutation same_text same_text_swapped items ts moved apart) sorted) (Rises-set_of items)
    (λ q. sym (list_any-IsPermutation (same_text q) items ts moved) ∙ sym (contains-set_of q items))

none_apart : AreApart []
unfolding IsDistinct
none_apart = tt

module _ {accepts : List ℕ → Bool} {normal : List ℕ → List ℕ} where
  pub no_items : IsGrowing accepts normal [] []
  no_items = record { each = tt; apart = none_apart; searched = refl }

  pub set_settled : (items ts : List Text) → AreApart items → AllByRecursion (IsNormalPiece accepts normal) items → IsPermutation items ts → IsSorted text_cmp ts → IsSubtagSet accepts normal ts
  set_settled items ts apart each moved sorted =
      subst (IsSubtagSet accepts normal) (sym (sorted_is_set items ts apart moved sorted))
      (record { rises = Rises-set_of items; each = each_in_set (IsNormalPiece accepts normal) items each })
