-- The marks of the variants that were seen among the pieces.
use Rattle.std.proofs.Common.{◌≡◌, ℕ, zero, suc, ◌<◌, ◌≤◌, ◌≢◌, Bool, true, false, ◌&&◌, ◌||◌, ◌⊎◌, inl, inr, List, [], ◌∷◌, ◌++◌, length, map, take, replicate, get_or, set, Result, Ok, Err, MatchOption, sym, refl, ap, ◌∙◌, arith}
use Rattle.std.specs.List.{list_all}
use Rattle.std.specs.List.Sorted.{IsStrictlySortedBy, IsSearchInRange, IsBinarySearchResult}
use Rattle.std.specs.Result.{result_ok}
use Rattle.std.specs.Char.{to_ascii_lowercase}
use Rattle.std.proofs.lemmas.Bool.{and_parts, or_from, or_parts, false≢true, eqb-true}
use Rattle.std.proofs.Common.{eqb}
use Rattle.std.proofs.lemmas.List.{get_or-set_other, get_or-set_same}
use Rattle.std.proofs.lemmas.Map.Keys.{apart_from_distinct}
use Rattle.icu_locale_core_grammar.specs.Subtags.{Text, is_variant, same_text, lower}
use Rattle.icu_locale_core_grammar.specs.Collections.{Rises, text_cmp, contains_text}
use Rattle.icu_locale_core_grammar.specs.WellFormed.{AreLower}
use Rattle.icu_locale_core_grammar.proofs.ListLemmas.{each_front, each_rest}
use Rattle.icu_locale_core_grammar.proofs.CollectionLemmas.{same_text_equal, same_text_refl, same_text_swapped}
use Rattle.icu_locale_core_grammar.proofs.NormalBodies.{apart_from_rising}
use Rattle.icu_locale_core_grammar.proofs.SetLemmas.{cmp_equal}
use Rattle.icu_locale_core_grammar.proofs.CaseLemmas.{lower_keeps, variant_changed}
use Rattle.icu_locale_core_subtag_lists.proofs.PlaceLemmas.{place_found}
use Rattle.icu_locale_core_langid.specs.Spelling.{IsAt, IsVariantSet, stands_in}

-- ---- a part of a set

rises_front : (us vs : List Text) → Rises (us ++ vs) → Rises us
unfolding IsStrictlySortedBy
rises_front [] vs rises = tt
rises_front (u ∷ us) vs rises = (each_front _ us vs rises.0, rises_front us vs rises.1)

rises_rest : (us vs : List Text) → Rises (us ++ vs) → Rises vs
unfolding IsStrictlySortedBy
rises_rest [] vs rises = rises
rises_rest (u ∷ us) vs rises = rises_rest us vs rises.1

pub set_front : (us vs : List Text) → IsVariantSet (us ++ vs) → IsVariantSet us
set_front us vs held = record { rises = rises_front us vs held.rises; each = each_front _ us vs held.each }

pub set_rest : (us vs : List Text) → IsVariantSet (us ++ vs) → IsVariantSet vs
set_rest us vs held = record { rises = rises_rest us vs held.rises; each = each_rest _ us vs held.each }

pub all_joined : (f : Text → Bool) (us vs : List Text) → list_all f us ≡ true → list_all f (us ++ vs) ≡ list_all f vs
all_joined f [] vs all = refl
all_joined f (u ∷ us) vs all =
    let e = and_parts (f u) (list_all f us) all in
    ap (λ b. b && list_all f (us ++ vs)) e.0 ∙ all_joined f us vs e.1

pub not_all_joined : (f : Text → Bool) (us vs : List Text) → list_all f us ≡ false → list_all f (us ++ vs) ≡ false
not_all_joined f [] vs all = cc
not_all_joined f (u ∷ us) vs all = by (f u) all (not_all_joined f us vs)
  where
    by : (b : Bool) → (b && list_all f us) ≡ false → (list_all f us ≡ false → list_all f (us ++ vs) ≡ false) → (b && list_all f (us ++ vs)) ≡ false
    by true e more = more e
    by false e more = refl

-- ---- where a piece is

pub found_at : (t : Text) (vs : List Text) (r : Result ℕ ℕ) → Rises vs → IsSearchInRange r (length vs) → IsBinarySearchResult (λ u. text_cmp u t) vs r
    → MatchOption (result_ok r) (contains_text t vs ≡ false) (IsAt t vs)
found_at t vs (Ok i) rises within at = record { within = within; there = λ d. cmp_equal (get_or vs i d) t (at d) }
found_at t vs (Err i) rises within point = (place_found t vs (Err i) rises within point).missing

pub none_there : (p : Text) (vs : List Text) → AreLower is_variant vs → is_variant p ≡ false → contains_text (lower p) vs ≡ false
none_there p [] normal not = refl
none_there p (v ∷ vs) normal not = or_from (same_text (lower p) v) (contains_text (lower p) vs) (by (same_text (lower p) v) refl) (none_there p vs normal.1 not)
  where
    by : (b : Bool) → same_text (lower p) v ≡ b → b ≡ false
    by false e = refl
    by true e = absurd (false≢true (sym not ∙ sym (variant_changed to_ascii_lowercase lower_keeps p) ∙ ap is_variant (same_text_equal (lower p) v e) ∙ normal.0.is))

-- ---- the marks

-- a variant is marked or among the pieces that are left, exactly where it is among all
abbrev pub AreSeen : List Text → List Bool → List Text → List Text → Type 0
AreSeen vs seen left ps =
    (k : ℕ) → k < length vs → (get_or seen k false || contains_text (get_or vs k []) (map lower left)) ≡ contains_text (get_or vs k []) (map lower ps)

pub unmarked : (n k : ℕ) → get_or (replicate n false) k false ≡ false
unmarked zero k = refl
unmarked (suc n) zero = refl
unmarked (suc n) (suc k) = unmarked n k

-- before the first piece none is marked
pub none_seen : (vs : List Text) (seen : List Bool) (ps : List Text) → ((k : ℕ) → get_or seen k false ≡ false) → AreSeen vs seen ps ps
none_seen vs seen ps none k lt = ap (λ b. b || contains_text (get_or vs k []) (map lower ps)) (none k)

-- a piece that is none of them
differs_at : (t : Text) (vs : List Text) (k : ℕ) → contains_text t vs ≡ false → k < length vs → same_text (get_or vs k []) t ≡ false
differs_at t [] k none lt = absurd (omega arith)
differs_at t (v ∷ vs) zero none lt = same_text_swapped v t ∙ (or_parts (same_text t v) (contains_text t vs) none).0
differs_at t (v ∷ vs) (suc k) none lt = differs_at t vs k (or_parts (same_text t v) (contains_text t vs) none).1 (omega arith)

not_it : (a b c : Bool) → b ≡ false → (a || (b || c)) ≡ (a || c)
not_it a b c e = ap (λ x. a || (x || c)) e

pub kept_seen : (vs : List Text) (seen : List Bool) (p : Text) (left ps : List Text) → contains_text (lower p) vs ≡ false → AreSeen vs seen (p ∷ left) ps → AreSeen vs seen left ps
kept_seen vs seen p left ps none held k lt =
    sym (not_it (get_or seen k false) (same_text (get_or vs k []) (lower p)) (contains_text (get_or vs k []) (map lower left)) (differs_at (lower p) vs k none lt)) ∙ held k lt

-- a piece that is one of them
differs_elsewhere : (vs : List Text) (i k : ℕ) → Rises vs → i < length vs → k < length vs → k ≢ i → same_text (get_or vs k []) (get_or vs i []) ≡ false
differs_elsewhere vs i k rises within lt apart = elim (order k i apart) [
  | inl below ↦ apart_from_distinct same_text vs k i [] (apart_from_rising vs rises) below within
  | inr above ↦ same_text_swapped (get_or vs k []) (get_or vs i []) ∙ apart_from_distinct same_text vs i k [] (apart_from_rising vs rises) above lt
]
  where
    order : (m n : ℕ) → m ≢ n → (m < n) ⊎ (n < m)
    order zero zero e = absurd (e refl)
    order zero (suc n) e = inl (omega arith)
    order (suc m) zero e = inr (omega arith)
    order (suc m) (suc n) e = elim (order m n (λ f. e (ap suc f))) [
      | inl below ↦ inl (omega arith)
      | inr above ↦ inr (omega arith)
    ]

equal_counts : (m n : ℕ) → m ≡ n → eqb m n ≡ true
equal_counts m n f = grind arith

pub more_seen : (vs : List Text) (seen : List Bool) (p : Text) (left ps : List Text) (i : ℕ) → Rises vs → length vs ≤ length seen → IsAt (lower p) vs i → AreSeen vs seen (p ∷ left) ps
    → AreSeen vs (set seen i true) left ps
more_seen vs seen p left ps i rises room at held k lt = by (eqb k i) refl
  where
    here : same_text (get_or vs i []) (lower p) ≡ true
    here = ap (λ t. same_text t (lower p)) (at.there []) ∙ same_text_refl (lower p)

    whole : (a b : Bool) → b ≡ true → (a || (b || contains_text (get_or vs k []) (map lower left))) ≡ true
    whole true b e = refl
    whole false b e = ap (λ x. x || contains_text (get_or vs k []) (map lower left)) e

    at_it : k ≡ i → (get_or (set seen i true) k false || contains_text (get_or vs k []) (map lower left)) ≡ contains_text (get_or vs k []) (map lower ps)
    at_it e =
        let within : i < length seen = omega (arith, at.within) in
        let marked : get_or (set seen i true) k false ≡ true = ap (λ j. get_or (set seen i true) j false) e ∙ get_or-set_same seen i true false within in
        let same : same_text (get_or vs k []) (lower p) ≡ true = ap (λ j. same_text (get_or vs j []) (lower p)) e ∙ here in
        ap (λ b. b || contains_text (get_or vs k []) (map lower left)) marked ∙ sym (whole (get_or seen k false) (same_text (get_or vs k []) (lower p)) same) ∙ held k lt

    elsewhere : k ≢ i → (get_or (set seen i true) k false || contains_text (get_or vs k []) (map lower left)) ≡ contains_text (get_or vs k []) (map lower ps)
    elsewhere ne =
        let other : same_text (get_or vs k []) (lower p) ≡ false = ap (same_text (get_or vs k [])) (sym (at.there [])) ∙ differs_elsewhere vs i k rises at.within lt ne in
        ap (λ b. b || contains_text (get_or vs k []) (map lower left)) (get_or-set_other seen i k true false ne)
        ∙ sym (not_it (get_or seen k false) (same_text (get_or vs k []) (lower p)) (contains_text (get_or vs k []) (map lower left)) other) ∙ held k lt

    by : (b : Bool) → eqb k i ≡ b → (get_or (set seen i true) k false || contains_text (get_or vs k []) (map lower left)) ≡ contains_text (get_or vs k []) (map lower ps)
    by true e = at_it (eqb-true k i e)
    by false e = elsewhere (λ f. false≢true (sym e ∙ equal_counts k i f))

-- ---- the answer

-- after the last piece the marks are the answers
pub marked_all : (vs : List Text) (marks : List Bool) (ps : List Text) → AreLower is_variant vs → length vs ≤ length marks → AreSeen vs marks [] ps
    → list_all (λ mark. mark) (take (length vs) marks) ≡ list_all (stands_in ps) vs
marked_all [] marks ps normal room held = refl
marked_all (v ∷ vs) [] ps normal room held = absurd (omega arith)
marked_all (v ∷ vs) (m ∷ marks) ps normal room held =
    let first : m ≡ contains_text (lower v) (map lower ps) = sym (or_none m) ∙ held 0 (omega arith) ∙ ap (λ t. contains_text t (map lower ps)) (sym normal.0.same) in
    let rest : list_all (λ mark. mark) (take (length vs) marks) ≡ list_all (stands_in ps) vs = marked_all vs marks ps normal.1 (omega arith) (λ k lt. held (suc k) (omega arith)) in
    λ i. first i && rest i
  where
    or_none : (b : Bool) → (b || false) ≡ b
    or_none true = refl
    or_none false = refl
