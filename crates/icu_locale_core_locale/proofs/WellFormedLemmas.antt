-- Singletons rise where each is below the next, and a meaning in normal form reads back from its text.
use Rattle.std.proofs.Common.{◌≡◌, ℕ, zero, suc, ◌+◌, ◌<◌, Bool, true, false, List, [], ◌∷◌, length, get_or, sym, refl, ap, ◌∙◌, subst, arith}
use Rattle.std.specs.Prelude.{IsTrue, ◌↔◌}
use Rattle.std.specs.List.{AllByRecursion, AllAdjacentBelow, IsAllAdjacentAnswer}
use Rattle.std.specs.List.Sorted.{IsStrictlySortedBy}
use Rattle.std.specs.Ordering.{is_lt}
use Rattle.std.specs.declared.cmp.Ordering.{Ordering}
use Rattle.std.specs.declared.cmp.Ordering.TheVariants.{Less, Equal, Greater}
use Rattle.std.proofs.lemmas.Bool.{false≢true}
use Rattle.icu_locale_core_grammar.specs.Subtags.{Text}
use Rattle.icu_locale_core_grammar.specs.Collections.{Entry, text_cmp, Rises, keys_of}
use Rattle.icu_locale_core_grammar.specs.Meaning.{TagMeaning, MeansTag}
use Rattle.icu_locale_core_grammar.specs.NormalText.{normal, normal_text}
use Rattle.icu_locale_core_grammar.specs.Pieces.{pieces}
use Rattle.icu_locale_core_grammar.specs.WellFormed.{IsNormalTag}
use Rattle.icu_locale_core_grammar.proofs.MeaningsAreNormal.{meaning_normal}
use Rattle.icu_locale_core_grammar.proofs.NormalTags.{normal_means, read_again}
use Rattle.icu_locale_core_grammar.proofs.SetLemmas.{cmp_through}

-- ---- singletons

-- whether the first is below the second
abbrev pub is_below : Entry → Entry → Bool
is_below o p = is_lt (text_cmp o.0 p.0)

below_is_less : (o p : Entry) → true ≡ is_below o p → text_cmp o.0 p.0 ≡ Less
below_is_less o p e = less (text_cmp o.0 p.0) e
  where
    less : (r : Ordering) → true ≡ is_lt r → r ≡ Less
    less Less e = refl
    less Equal e = absurd (false≢true (sym e))
    less Greater e = absurd (false≢true (sym e))

abbrev AreBelow : List Entry → Type 0
AreBelow os = AllAdjacentBelow (λ o p. true ≡ is_below o p) os (length os)

tail_below : (o : Entry) (os : List Entry) → AreBelow (o ∷ os) → AreBelow os
tail_below o os below = λ k d within.
    let next : suc k + 1 ≡ suc (k + 1) = omega arith in
    subst (λ n. true ≡ is_below (get_or os k d) (get_or (o ∷ os) n d)) next (below (suc k) d (omega (arith, within)))

all_through : (x y : Text) (zs : List Text) → text_cmp x y ≡ Less → AllByRecursion (λ z. text_cmp y z ≡ Less) zs → AllByRecursion (λ z. text_cmp x z ≡ Less) zs
all_through x y [] less each = tt
all_through x y (z ∷ zs) less each = (cmp_through x y z less each.0, all_through x y zs less each.1)

rises_where_below : (os : List Entry) → AreBelow os → Rises (keys_of os)
unfolding IsStrictlySortedBy
rises_where_below [] below = tt
rises_where_below (o ∷ []) below = (tt, tt)
rises_where_below (o ∷ p ∷ os) below =
    let later = rises_where_below (p ∷ os) (tail_below o (p ∷ os) below) in
    let less = below_is_less o p (below 0 o (omega arith)) in
    ((less, all_through o.0 p.0 (keys_of os) less later.0), later)

below_where_rises : (os : List Entry) (k : ℕ) (d : Entry) → Rises (keys_of os) → k + 1 < length os → text_cmp (get_or os k d).0 (get_or os (k + 1) d).0 ≡ Less
unfolding IsStrictlySortedBy
below_where_rises [] k d rises within = absurd (omega (arith, within))
below_where_rises (o ∷ []) k d rises within = absurd (omega (arith, within))
below_where_rises (o ∷ p ∷ os) zero d rises within = rises.0.0
below_where_rises (o ∷ p ∷ os) (suc k) d rises within =
    let next : suc (k + 1) ≡ suc k + 1 = omega arith in
    subst (λ n. text_cmp (get_or (p ∷ os) k d).0 (get_or (o ∷ p ∷ os) n d).0 ≡ Less) next (below_where_rises (p ∷ os) k d rises.1 (omega (arith, within)))

pub rises_by_pairs : (os : List Entry) (r : Bool) → IsAllAdjacentAnswer (λ o p b. b ≡ is_below o p) os r → IsTrue r ↔ Rises (keys_of os)
rises_by_pairs os true answered = ((λ yes. rises_where_below os answered), (λ rises. refl))
rises_by_pairs [] false answered = absurd (omega (arith, answered.1))
rises_by_pairs (o ∷ os) false answered =
    ((λ yes. absurd (false≢true yes)), (λ rises. absurd (false≢true (answered.2 o ∙ ap is_lt (below_where_rises (o ∷ os) answered.0 o rises answered.1)))))

-- ---- whole values

pub reads_where_normal : (m : TagMeaning) → IsNormalTag m ↔ MeansTag (pieces (normal_text m)) m
reads_where_normal m = ((λ parts. read_again (normal m) m (normal_means m parts)), (λ means. meaning_normal (pieces (normal_text m)) m means))
