-- Facts on texts that differ, on sets and on maps.
use Rattle.std.proofs.Common.{◌≡◌, Bool, true, false, ◌||◌, List, [], ◌∷◌, ◌++◌, refl, ap, ◌∙◌}
use Rattle.std.specs.List.{AllByRecursion, IsDistinct}
use Rattle.std.specs.Cmp.Lexicographic.{nat_list_eq_equiv, bytes_decides}
use Rattle.std.proofs.lemmas.Bool.{or_from}
use Rattle.std.proofs.lemmas.Map.Keys.{IsDistinct-push}
use Rattle.icu_locale_core_grammar.specs.Subtags.{Text, same_text}
use Rattle.icu_locale_core_grammar.specs.Collections.{contains_text, AreApart}
use Rattle.icu_locale_core_grammar.proofs.ListLemmas.{each_rest}

-- ---- texts

pub same_text_swapped : (a b : Text) → same_text a b ≡ same_text b a
same_text_swapped a b = nat_list_eq_equiv.symm a b

pub same_text_equal : (a b : Text) → same_text a b ≡ true → a ≡ b
same_text_equal a b e = (bytes_decides a b).0 e

pub same_text_refl : (a : Text) → same_text a a ≡ true
same_text_refl a = (bytes_decides a a).1 refl

-- ---- texts that differ

pub AreApart-push : (ts : List Text) (t : Text) → AreApart ts → contains_text t ts ≡ false → AreApart (ts ++ t ∷ [])
AreApart-push ts t apart new = IsDistinct-push nat_list_eq_equiv ts t apart new

-- a text that is none of a list is not in it
pub none_same : (t : Text) (us : List Text) → AllByRecursion (λ u. same_text t u ≡ false) us → contains_text t us ≡ false
none_same t [] each = refl
none_same t (u ∷ us) each = or_from (same_text t u) (contains_text t us) each.0 (none_same t us each.1)

-- a text with others after it is none of those before it
pub apart_new : (before : List Text) (t : Text) (behind : List Text) → AreApart (before ++ t ∷ behind) → contains_text t before ≡ false
unfolding IsDistinct
apart_new [] t behind apart = refl
apart_new (u ∷ us) t behind apart =
    let here : same_text u t ≡ false = (each_rest (λ v. same_text u v ≡ false) us (t ∷ behind) apart.0).0 in
    or_from (same_text t u) (contains_text t us) (same_text_swapped t u ∙ here) (apart_new us t behind apart.1)

pub contains-append : (t : Text) (ts us : List Text) → contains_text t (ts ++ us) ≡ (contains_text t ts || contains_text t us)
contains-append t [] us = refl
contains-append t (u ∷ ts) us = ap (λ b. same_text t u || b) (contains-append t ts us) ∙ shifted (same_text t u) (contains_text t ts) (contains_text t us)
  where
    shifted : (a b c : Bool) → (a || (b || c)) ≡ ((a || b) || c)
    shifted true b c = refl
    shifted false b c = refl
