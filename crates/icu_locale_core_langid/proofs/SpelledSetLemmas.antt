-- Pieces spell a set exactly where they are as many as its texts and each of these is one of them.
use Rattle.std.proofs.Common.{◌≡◌, ℕ, suc, ◌≤◌, Bool, true, false, ◌&&◌, ◌||◌, ◌⊎◌, inl, inr, List, [], ◌∷◌, length, map, sym, refl, ap, ◌∙◌, subst, arith}
use Rattle.std.specs.Prelude.{IsTrue, ◌↔◌, ◌==◌}
use Rattle.std.specs.List.{AllByRecursion, IsDistinct, list_all}
use Rattle.std.specs.Char.{to_ascii_lowercase}
use Rattle.std.specs.Cmp.{both_ways}
use Rattle.std.specs.Cmp.Lexicographic.{nat_list_eq_equiv}
use Rattle.std.specs.Set.{distinct_count}
use Rattle.std.proofs.lemmas.Bool.{and_parts, and_from, or_parts, or_right, false≢true, eqb-true}
use Rattle.std.proofs.lemmas.List.{length-map}
use Rattle.std.proofs.lemmas.Map.Made.{length-le_from_is_member, length-from_keys, IsDistinct-from_count, distinct_count-from_IsDistinct}
use Rattle.icu_locale_core_grammar.specs.Subtags.{Text, is_variant, same_text, lower}
use Rattle.icu_locale_core_grammar.specs.Collections.{AreApart, Rises, contains_text, set_of}
use Rattle.icu_locale_core_grammar.specs.WellFormed.{AreLower}
use Rattle.icu_locale_core_grammar.proofs.CaseLemmas.{lower_keeps, variant_changed}
use Rattle.icu_locale_core_grammar.proofs.CollectionLemmas.{same_text_equal}
use Rattle.icu_locale_core_grammar.proofs.NormalBodies.{apart_from_rising}
use Rattle.icu_locale_core_grammar.proofs.SetLemmas.{contains_first, contains-set_of, Rises-set_of, rising_same}
use Rattle.icu_locale_core_langid.specs.Spelling.{IsVariantSet, SpellsSet, stands_in}

-- the piece is a variant of the set
abbrev pub is_among : List Text → Text → Bool
is_among set p = is_variant p && contains_text (lower p) set

-- ---- what a list contains

contains_after : (q t : Text) (ts : List Text) → contains_text q ts ≡ true → contains_text q (t ∷ ts) ≡ true
contains_after q t ts e = or_right (same_text q t) (contains_text q ts) e

contains_cases : (q t : Text) (ts : List Text) → contains_text q (t ∷ ts) ≡ true → (q ≡ t) ⊎ (contains_text q ts ≡ true)
contains_cases q t ts e = by (same_text q t) refl e
  where
    by : (b : Bool) → same_text q t ≡ b → (b || contains_text q ts) ≡ true → (q ≡ t) ⊎ (contains_text q ts ≡ true)
    by true is f = inl (same_text_equal q t is)
    by false is f = inr f

each_differs : (t : Text) (us : List Text) → contains_text t us ≡ false → AllByRecursion (λ u. same_text t u ≡ false) us
each_differs t [] e = tt
each_differs t (u ∷ us) e = let f = or_parts (same_text t u) (contains_text t us) e in (f.0, each_differs t us f.1)

-- ---- where the tests pass, the set is spelled

from_set : (q : Text) (ps vs : List Text) → AreLower is_variant vs → list_all (stands_in ps) vs ≡ true → contains_text q vs ≡ true → contains_text q (map lower ps) ≡ true
from_set q ps [] normal all there = cc
from_set q ps (v ∷ vs) normal all there =
    let f = and_parts (stands_in ps v) (list_all (stands_in ps) vs) all in
    elim (contains_cases q v vs there) [
      | inl e ↦ subst (λ t. contains_text t (map lower ps) ≡ true) (normal.0.same ∙ sym e) f.0
      | inr more ↦ from_set q ps vs normal.1 f.1 more
    ]

-- as many texts as a set has, with each of it among them, are those of the set
set_apart : (set : List Text) (q : Text) → Rises set → contains_text q set ≡ false → AreApart (q ∷ set)
unfolding IsDistinct
set_apart set q rises none = (each_differs q set none, apart_from_rising set rises)

module _ (set ts : List Text) (rises : Rises set) (all : (q : Text) → contains_text q set ≡ true → contains_text q ts ≡ true) (many : length ts ≡ length set) where
  none_besides : (q : Text) → contains_text q ts ≡ true → contains_text q set ≡ false → ⊥
  none_besides q there none =
      let each : (r : Text) → contains_text r (q ∷ set) ≡ true → contains_text r ts ≡ true =
      λ r e. elim (contains_cases r q set e) [
        | inl same ↦ subst (λ t. contains_text t ts ≡ true) (sym same) there
        | inr more ↦ all r more
      ] in
      let long : suc (length set) ≤ length ts = length-le_from_is_member nat_list_eq_equiv (q ∷ set) ts (set_apart set q rises none) each in
      omega (arith, many)

  only_those : (q : Text) → contains_text q ts ≡ true → contains_text q set ≡ true
  only_those q there = by (contains_text q set) refl
    where
      by : (b : Bool) → contains_text q set ≡ b → b ≡ true
      by true e = refl
      by false e = absurd (none_besides q there e)

  pub same_texts : (q : Text) → contains_text q set ≡ contains_text q ts
  same_texts q = both_ways (contains_text q set) (contains_text q ts) (all q) (only_those q)

  pub texts_apart : AreApart ts
  texts_apart =
      let count : length set ≡ distinct_count same_text ts = length-from_keys nat_list_eq_equiv set ts (apart_from_rising set rises) same_texts in
      IsDistinct-from_count nat_list_eq_equiv ts (sym count ∙ sym many)

  pub texts_are_set : set_of ts ≡ set
  texts_are_set = rising_same (set_of ts) set (Rises-set_of ts) rises (λ q. contains-set_of q ts ∙ sym (same_texts q))

pub set_spelled : (ps set : List Text) → IsVariantSet set → length ps ≡ length set → list_all (stands_in ps) set ≡ true → SpellsSet ps set
set_spelled ps set held many all =
    let there : (q : Text) → contains_text q set ≡ true → contains_text q (map lower ps) ≡ true = λ q e. from_set q ps set held.each all e in
    let count : length (map lower ps) ≡ length set = length-map ps lower ∙ many in
    record { apart = texts_apart set (map lower ps) held.rises there count; same = texts_are_set set (map lower ps) held.rises there count }

-- ---- and only there

member_is : (q : Text) (vs : List Text) → AreLower is_variant vs → contains_text q vs ≡ true → is_variant q ≡ true
member_is q [] normal there = cc
member_is q (v ∷ vs) normal there = elim (contains_cases q v vs there) [
  | inl e ↦ subst (λ t. is_variant t ≡ true) (sym e) normal.0.is
  | inr more ↦ member_is q vs normal.1 more
]

every_piece : (f : Text → Bool) (ps : List Text) → ((p : Text) → contains_text (lower p) (map lower ps) ≡ true → f p ≡ true) → list_all f ps ≡ true
every_piece f [] each = refl
every_piece f (p ∷ ps) each =
    and_from (f p) (list_all f ps) (each p (contains_first (lower p) (map lower ps))) (every_piece f ps (λ q e. each q (contains_after (lower q) (lower p) (map lower ps) e)))

every_text : (f : Text → Bool) (vs : List Text) → ((v : Text) → contains_text v vs ≡ true → f v ≡ true) → list_all f vs ≡ true
every_text f [] each = refl
every_text f (v ∷ vs) each =
    and_from (f v) (list_all f vs) (each v (contains_first v vs)) (every_text f vs (λ q e. each q (contains_after q v vs e)))

stays_lower : (q : Text) (vs : List Text) → AreLower is_variant vs → contains_text q vs ≡ true → lower q ≡ q
stays_lower q [] normal there = cc
stays_lower q (v ∷ vs) normal there = elim (contains_cases q v vs there) [
  | inl e ↦ subst (λ t. lower t ≡ t) (sym e) normal.0.same
  | inr more ↦ stays_lower q vs normal.1 more
]

module _ (ps set : List Text) (normal : AreLower is_variant set) (spells : SpellsSet ps set) where
  contained : (q : Text) → contains_text q (map lower ps) ≡ contains_text q set
  contained q = sym (contains-set_of q (map lower ps)) ∙ ap (contains_text q) spells.same

  pub pieces_among : list_all (is_among set) ps ≡ true
  pieces_among = every_piece (is_among set) ps (λ p e.
      let there : contains_text (lower p) set ≡ true = sym (contained (lower p)) ∙ e in
      and_from (is_variant p) (contains_text (lower p) set) (sym (variant_changed to_ascii_lowercase lower_keeps p) ∙ member_is (lower p) set normal there) there)

  pub set_there : list_all (stands_in ps) set ≡ true
  set_there = every_text (stands_in ps) set (λ v e. ap (λ t. contains_text t (map lower ps)) (stays_lower v set normal e) ∙ contained v ∙ e)

  pub as_many : Rises set → length ps ≡ length set
  as_many rises =
      sym (length-map ps lower) ∙ sym (distinct_count-from_IsDistinct nat_list_eq_equiv (map lower ps) spells.apart)
      ∙ sym (length-from_keys nat_list_eq_equiv set (map lower ps) (apart_from_rising set rises) (λ q. sym (contained q)))

-- ---- the two tests together

equal_counts : (m n : ℕ) → m ≡ n → (m == n) ≡ true
equal_counts m n e = grind arith

pub not_as_many : (ps set : List Text) → IsVariantSet set → false ≡ (length ps == length set) → SpellsSet ps set → ⊥
not_as_many ps set held fails spells = false≢true (fails ∙ equal_counts (length ps) (length set) (as_many ps set held.each spells held.rises))

pub spelled_by_last : (ps set : List Text) (r : Bool) → IsVariantSet set → true ≡ (length ps == length set) → r ≡ list_all (stands_in ps) set → IsTrue r ↔ SpellsSet ps set
spelled_by_last ps set r held many last =
    (λ yes. set_spelled ps set held (eqb-true (length ps) (length set) (sym many)) (sym last ∙ yes), λ spells. last ∙ set_there ps set held.each spells)

pub answer_no : {A : Type 0} → (A → ⊥) → IsTrue false ↔ A
answer_no none = (λ e. absurd (false≢true e), λ a. absurd (none a))
