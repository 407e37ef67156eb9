-- Sets of texts: what they contain, that they rise, and that a list that rises is its own set.
use Rattle.std.proofs.Common.{◌≡◌, Bool, true, false, ◌||◌, List, [], ◌∷◌, ◌++◌, fold, sym, refl, ap, ◌∙◌, subst, append_assoc, append-nil}
use Rattle.std.specs.List.{AllByRecursion}
use Rattle.std.specs.List.Sorted.{IsStrictlySortedBy}
use Rattle.std.specs.Ordering.{match_ordering, ordering_reverse, is_eq}
use Rattle.std.specs.declared.cmp.Ordering.{Ordering}
use Rattle.std.specs.declared.cmp.Ordering.TheVariants.{Less, Equal, Greater}
use Rattle.std.specs.Cmp.Lexicographic.{nat_list_cmp_total, texts_ties}
use Rattle.std.proofs.lemmas.Bool.{or_from, false≢true}
use Rattle.icu_locale_core_grammar.specs.Subtags.{Text, same_text}
use Rattle.icu_locale_core_grammar.specs.Collections.{text_cmp, contains_text, Rises, insert_text, set_of}
use Rattle.icu_locale_core_grammar.proofs.ListLemmas.{each_weaker}
use Rattle.icu_locale_core_grammar.proofs.CollectionLemmas.{same_text_equal, same_text_refl}

-- ---- the order of texts

pub cmp_equal : (a b : Text) → text_cmp a b ≡ Equal → a ≡ b
cmp_equal a b e = same_text_equal a b (texts_ties a b ∙ ap is_eq e)

pub cmp_swapped : (a b : Text) → text_cmp a b ≡ ordering_reverse (text_cmp b a)
cmp_swapped a b = nat_list_cmp_total.antisymm a b

pub cmp_below : (a b : Text) → text_cmp a b ≡ Greater → text_cmp b a ≡ Less
cmp_below a b e = cmp_swapped b a ∙ ap ordering_reverse e

pub cmp_through : (a b c : Text) → text_cmp a b ≡ Less → text_cmp b c ≡ Less → text_cmp a c ≡ Less
cmp_through a b c = nat_list_cmp_total.trans a b c

-- ---- what a set contains

or_same : (a b : Bool) → (a || (a || b)) ≡ (a || b)
or_same true b = refl
or_same false b = refl

or_swapped : (a b c : Bool) → (b || (a || c)) ≡ (a || (b || c))
or_swapped true true c = refl
or_swapped true false c = refl
or_swapped false true c = refl
or_swapped false false c = refl

pub contains-insert : (q t : Text) (us : List Text) → contains_text q (insert_text t us) ≡ (same_text q t || contains_text q us)
contains-insert q t [] = refl
contains-insert q t (u ∷ us) = by_order (text_cmp t u) refl (contains-insert q t us)
  where
    by_order : (o : Ordering) → text_cmp t u ≡ o → contains_text q (insert_text t us) ≡ (same_text q t || contains_text q us)
        → contains_text q (match_ordering o (t ∷ u ∷ us) (u ∷ us) (u ∷ insert_text t us)) ≡ (same_text q t || (same_text q u || contains_text q us))
    by_order Less e more = refl
    by_order Equal e more = sym (ap (λ b. b || (same_text q u || contains_text q us)) (ap (same_text q) (cmp_equal t u e)) ∙ or_same (same_text q u) (contains_text q us))
    by_order Greater e more = ap (λ b. same_text q u || b) more ∙ or_swapped (same_text q t) (same_text q u) (contains_text q us)

abbrev pub put_text : List Text → Text → List Text
put_text set t = insert_text t set

or_turned : (a b c : Bool) → ((a || b) || c) ≡ (b || (a || c))
or_turned true true c = refl
or_turned true false c = refl
or_turned false true c = refl
or_turned false false c = refl

contains-fold : (q : Text) (set ts : List Text) → contains_text q (fold put_text set ts) ≡ (contains_text q ts || contains_text q set)
contains-fold q set [] = refl
contains-fold q set (t ∷ ts) =
    contains-fold q (insert_text t set) ts ∙ ap (λ b. contains_text q ts || b) (contains-insert q t set) ∙ sym (or_turned (same_text q t) (contains_text q ts) (contains_text q set))

or_false : (b : Bool) → (b || false) ≡ b
or_false true = refl
or_false false = refl

-- a set has the texts that were put into it
pub contains-set_of : (q : Text) (ts : List Text) → contains_text q (set_of ts) ≡ contains_text q ts
contains-set_of q ts = contains-fold q [] ts ∙ or_false (contains_text q ts)

pub contains_first : (t : Text) (ts : List Text) → contains_text t (t ∷ ts) ≡ true
contains_first t ts = ap (λ b. b || contains_text t ts) (same_text_refl t)

-- a text below each is not there
pub absent : (t : Text) (us : List Text) → AllByRecursion (λ u. text_cmp t u ≡ Less) us → contains_text t us ≡ false
absent t [] each = refl
absent t (u ∷ us) each = or_from (same_text t u) (contains_text t us) (texts_ties t u ∙ ap is_eq each.0) (absent t us each.1)

-- ---- an order

-- u is below each text of the set that t goes into, and below t
below_insert : (u t : Text) (us : List Text) → text_cmp u t ≡ Less → AllByRecursion (λ v. text_cmp u v ≡ Less) us → AllByRecursion (λ v. text_cmp u v ≡ Less) (insert_text t us)
below_insert u t [] e each = (e, tt)
below_insert u t (v ∷ vs) e each = by_order (text_cmp t v) (below_insert u t vs e each.1)
  where
    by_order : (o : Ordering) → AllByRecursion (λ w. text_cmp u w ≡ Less) (insert_text t vs) → AllByRecursion (λ w. text_cmp u w ≡ Less) (match_ordering o (t ∷ v ∷ vs) (v ∷ vs) (v ∷ insert_text t vs))
    by_order Less more = (e, each)
    by_order Equal more = each
    by_order Greater more = (each.0, more)

pub Rises-insert : (t : Text) (us : List Text) → Rises us → Rises (insert_text t us)
unfolding IsStrictlySortedBy
Rises-insert t [] rises = (tt, tt)
Rises-insert t (u ∷ us) rises = by_order (text_cmp t u) refl (Rises-insert t us rises.1)
  where
    by_order : (o : Ordering) → text_cmp t u ≡ o → Rises (insert_text t us) → Rises (match_ordering o (t ∷ u ∷ us) (u ∷ us) (u ∷ insert_text t us))
    by_order Less e more = ((e, each_weaker (λ v. text_cmp u v ≡ Less) (λ v. text_cmp t v ≡ Less) (λ v f. cmp_through t u v e f) us rises.0), rises)
    by_order Equal e more = rises
    by_order Greater e more = (below_insert u t us (cmp_below t u e) rises.0, more)

Rises-fold : (set ts : List Text) → Rises set → Rises (fold put_text set ts)
Rises-fold set [] rises = rises
Rises-fold set (t ∷ ts) rises = Rises-fold (insert_text t set) ts (Rises-insert t set rises)

rises_none : Rises []
unfolding IsStrictlySortedBy
rises_none = tt

pub Rises-set_of : (ts : List Text) → Rises (set_of ts)
Rises-set_of ts = Rises-fold [] ts rises_none

-- ---- a list that rises is its own set

-- a text above all of a list goes to its end
pub insert_last : (us : List Text) (t : Text) (rest : List Text) → Rises (us ++ t ∷ rest) → insert_text t us ≡ us ++ t ∷ []
unfolding IsStrictlySortedBy
insert_last [] t rest rises = refl
insert_last (u ∷ us) t rest rises =
    ap (λ o. match_ordering o (t ∷ u ∷ us) (u ∷ us) (u ∷ insert_text t us)) (above us rises.0) ∙ ap (λ l. u ∷ l) (insert_last us t rest rises.1)
  where
    below : (vs : List Text) → AllByRecursion (λ v. text_cmp u v ≡ Less) (vs ++ t ∷ rest) → text_cmp u t ≡ Less
    below [] each = each.0
    below (v ∷ vs) each = below vs each.1

    above : (vs : List Text) → AllByRecursion (λ v. text_cmp u v ≡ Less) (vs ++ t ∷ rest) → text_cmp t u ≡ Greater
    above vs each = cmp_swapped t u ∙ ap ordering_reverse (below vs each)

pub fold_rising : (set ts : List Text) → Rises (set ++ ts) → fold put_text set ts ≡ set ++ ts
fold_rising set [] rises = sym (append-nil set)
fold_rising set (t ∷ ts) rises =
    ap (λ l. fold put_text l ts) (insert_last set t ts rises)
    ∙ fold_rising (set ++ t ∷ []) ts (subst Rises (sym (append_assoc set (t ∷ []) ts)) rises) ∙ append_assoc set (t ∷ []) ts

pub set_of_rising : (ts : List Text) → Rises ts → set_of ts ≡ ts
set_of_rising ts rises = fold_rising [] ts rises

-- ---- rising lists that contain the same

not_below : (x y : Text) (xs ys : List Text) → AllByRecursion (λ v. text_cmp y v ≡ Less) ys → ((q : Text) → contains_text q (x ∷ xs) ≡ contains_text q (y ∷ ys)) → text_cmp x y ≡ Less → ⊥
not_below x y xs ys above same less =
    let none = absent x (y ∷ ys) (less, each_weaker (λ v. text_cmp y v ≡ Less) (λ v. text_cmp x v ≡ Less) (λ v f. cmp_through x y v less f) ys above) in
    false≢true (sym none ∙ sym (same x) ∙ contains_first x xs)

one_head : (x y : Text) (xs ys : List Text) (o : Ordering) → text_cmp x y ≡ o → AllByRecursion (λ v. text_cmp x v ≡ Less) xs → AllByRecursion (λ v. text_cmp y v ≡ Less) ys
    → ((q : Text) → contains_text q (x ∷ xs) ≡ contains_text q (y ∷ ys)) → x ≡ y
one_head x y xs ys Less e a b same = absurd (not_below x y xs ys b same e)
one_head x y xs ys Equal e a b same = cmp_equal x y e
one_head x y xs ys Greater e a b same = absurd (not_below y x ys xs a (λ q. sym (same q)) (cmp_below x y e))

same_after : (x : Text) (xs ys : List Text) → AllByRecursion (λ v. text_cmp x v ≡ Less) xs → AllByRecursion (λ v. text_cmp x v ≡ Less) ys
    → ((q : Text) → contains_text q (x ∷ xs) ≡ contains_text q (x ∷ ys)) → (q : Text) → contains_text q xs ≡ contains_text q ys
same_after x xs ys a b same q = by (same_text q x) refl (same q)
  where
    by : (c : Bool) → same_text q x ≡ c → (c || contains_text q xs) ≡ (c || contains_text q ys) → contains_text q xs ≡ contains_text q ys
    by true is e =
        let one : x ≡ q = sym (same_text_equal q x is) in
        subst (λ t. contains_text t xs ≡ contains_text t ys) one (absent x xs a ∙ sym (absent x ys b))
    by false is e = e

-- two lists that rise and contain the same are one
pub rising_same : (xs ys : List Text) → Rises xs → Rises ys → ((q : Text) → contains_text q xs ≡ contains_text q ys) → xs ≡ ys
unfolding IsStrictlySortedBy
rising_same [] [] a b same = refl
rising_same [] (y ∷ ys) a b same = absurd (false≢true (same y ∙ contains_first y ys))
rising_same (x ∷ xs) [] a b same = absurd (false≢true (sym (same x) ∙ contains_first x xs))
rising_same (x ∷ xs) (y ∷ ys) a b same =
    let head : x ≡ y = one_head x y xs ys (text_cmp x y) refl a.0 b.0 same in
    let behind = same_after x xs ys a.0 (subst (λ t. AllByRecursion (λ v. text_cmp t v ≡ Less) ys) (sym head) b.0) (λ q. same q ∙ ap (λ t. contains_text q (t ∷ ys)) (sym head)) in
    λ i. head i ∷ rising_same xs ys a.1 b.1 behind i
