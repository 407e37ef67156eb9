-- The singletons that come before an extension are few: no two of them are equal, and each is one of 36.
use Rattle.std.proofs.Common.{◌≡◌, ℕ, zero, suc, ◌+◌, ◌<◌, ◌≤◌, Bool, true, false, ◌||◌, List, [], ◌∷◌, ◌++◌, Option, None, Some, IfSome, length, length-append, refl, sym, ap, ◌∙◌, subst, nat_eq, leb, arith}
use Rattle.std.specs.Prelude.{⊤, if◌then◌else◌}
use Rattle.std.specs.List.{list_any, IsDistinct}
use Rattle.std.specs.Char.{is_ascii_alphanumeric, to_ascii_lowercase}
use Rattle.std.specs.Int.{is_in_range}
use Rattle.std.specs.Cmp.Lexicographic.{nat_list_eq_equiv}
use Rattle.std.proofs.lemmas.Bool.{and_parts, or_right, leb-true}
use Rattle.std.proofs.lemmas.Bool.Decides.{nat_tests}
use Rattle.std.proofs.lemmas.List.Folds.{list_any-append}
use Rattle.std.proofs.lemmas.Map.Made.{length-le_from_is_member}
use Rattle.icu_locale_core_grammar.specs.Subtags.{Text, is_plain, is_singleton, is_private, is_private_piece, lower, same_text}
use Rattle.icu_locale_core_grammar.specs.Collections.{Each, AreApart, contains_text}
use Rattle.icu_locale_core_grammar.specs.LanguagePart.{LanguageId}
use Rattle.icu_locale_core_grammar.specs.Meaning.{Part, ExtensionMeanings, no_extensions, put_part}
use Rattle.icu_locale_core_grammar.specs.Stepping.{InFront, AtBlock, InBlock, InPrivate, run, whole_after, after_front, at_block, after_block}
use Rattle.icu_locale_core_grammar.specs.TagStages.{BodyStage, TagStage, language_after, language_ends, body_after, body_ends, opens, opened_at, stage_behind, tag_after, tag_start}
use Rattle.icu_locale_core_grammar.proofs.CollectionLemmas.{AreApart-push, same_text_equal}
use Rattle.icu_locale_core_grammar.proofs.ListLemmas.{each-append}
use Rattle.icu_locale_core_grammar.proofs.SingletonLemmas.{Opening, by_unicode, by_transform, by_other, opening, other_is_none, spelled_lower}
use Rattle.icu_locale_core_locale.specs.StageView.{HasFewBefore, singletons}
use Rattle.icu_locale_core_locale.proofs.SingletonLemmas.{byte_contained}

-- ---- the digits and the letters in lower case

abbrev count_from : ℕ → ℕ → List ℕ
count_from first zero = []
count_from first (suc n) = first ∷ count_from (first + 1) n

counted : (first n c : ℕ) → first ≤ c → c < first + n → list_any (λ d. nat_eq d c) (count_from first n) ≡ true
counted first zero c low high = let lacks : ⊥ = omega (arith, low, high) in absurd lacks
counted first (suc n) c low high = by (nat_eq first c) (λ above. counted (first + 1) n c above (omega (arith, high))) refl
  where
    by : (b : Bool) → (first + 1 ≤ c → list_any (λ d. nat_eq d c) (count_from (first + 1) n) ≡ true) → nat_eq first c ≡ b
        → (nat_eq first c || list_any (λ d. nat_eq d c) (count_from (first + 1) n)) ≡ true
    by true rest e = ap (λ b. b || list_any (λ d. nat_eq d c) (count_from (first + 1) n)) e
    by false rest e =
        let above : first + 1 ≤ c = grind (arith, nat_tests) in
        or_right (nat_eq first c) (list_any (λ d. nat_eq d c) (count_from (first + 1) n)) (rest above)

abbrev known : List ℕ
known = count_from 48 10 ++ count_from 97 26

lower_in_range : (c : ℕ) → is_ascii_alphanumeric c ≡ true → (is_in_range 48 57 (to_ascii_lowercase c) || is_in_range 97 122 (to_ascii_lowercase c)) ≡ true
lower_in_range c is = grind (arith, nat_tests)

in_known : (l : ℕ) → (is_in_range 48 57 l || is_in_range 97 122 l) ≡ true → list_any (λ d. nat_eq d l) known ≡ true
in_known l is = list_any-append (λ d. nat_eq d l) (count_from 48 10) (count_from 97 26) ∙ by (is_in_range 48 57 l) refl
  where
    by : (b : Bool) → is_in_range 48 57 l ≡ b → (list_any (λ d. nat_eq d l) (count_from 48 10) || list_any (λ d. nat_eq d l) (count_from 97 26)) ≡ true
    by true e =
        let parts = and_parts (leb 48 l) (leb l 57) e in
        ap (λ b. b || list_any (λ d. nat_eq d l) (count_from 97 26)) (counted 48 10 l (leb-true 48 l parts.0) (let most : l ≤ 57 = leb-true l 57 parts.1 in omega (arith, most)))
    by false e =
        let letter : is_in_range 97 122 l ≡ true = sym (ap (λ b. b || is_in_range 97 122 l) e) ∙ is in
        let parts = and_parts (leb 97 l) (leb l 122) letter in
        or_right (list_any (λ d. nat_eq d l) (count_from 48 10)) (list_any (λ d. nat_eq d l) (count_from 97 26))
        (counted 97 26 l (leb-true 97 l parts.0) (let most : l ≤ 122 = leb-true l 122 parts.1 in omega (arith, most)))

abbrev is_known : Text → Bool
is_known t = contains_text t (singletons known)

lower_known : (p : Text) → is_singleton p ≡ true → is_known (lower p) ≡ true
lower_known [] is = cc
lower_known (c ∷ []) is =
    byte_contained (to_ascii_lowercase c) known ∙ in_known (to_ascii_lowercase c) (lower_in_range c (and_parts (is_ascii_alphanumeric c) true is).0)
lower_known (c ∷ d ∷ cs) is =
    let range = (and_parts (is_in_range 1 1 (length (c ∷ d ∷ cs))) (is_plain (c ∷ d ∷ cs)) is).0 in
    let high : length (c ∷ d ∷ cs) ≤ 1 = leb-true (length (c ∷ d ∷ cs)) 1 (and_parts (leb 1 (length (c ∷ d ∷ cs))) (leb (length (c ∷ d ∷ cs)) 1) range).1 in
    let lacks : ⊥ = omega (arith, high) in absurd lacks

opens_known : (p : Text) (b : BodyStage) → opens p ≡ Some b → is_known (lower p) ≡ true
opens_known p b e = by_opening (opening p b e)
  where
    by_opening : Opening p b → is_known (lower p) ≡ true
    by_opening (by_unicode f g) = ap is_known (spelled_lower (117 ∷ []) p f)
    by_opening (by_transform f g) = ap is_known (spelled_lower (116 ∷ []) p f)
    by_opening (by_other f g) = lower_known p (other_is_none p f).0

-- ---- the singletons at a stage, with the one of the extension that is read

abbrev AreKnown : List Text → Type 0
AreKnown ts = AreApart ts × Each is_known ts

abbrev HasKnown : TagStage → Type 0
HasKnown (InFront l) = ⊤
HasKnown (AtBlock id seen e k b) = AreKnown (seen ++ k ∷ [])
HasKnown (InBlock id seen e k b) = AreKnown (seen ++ k ∷ [])
HasKnown (InPrivate id e own) = ⊤

none_known : AreKnown []
unfolding IsDistinct
none_known = (tt, tt)

part_known : (id : LanguageId) (seen : List Text) (e : ExtensionMeanings) (p : Text) (t : TagStage) → AreKnown seen → stage_behind id seen e p ≡ Some t → HasKnown t
part_known id seen e p t are f = by (is_private p) (contains_text (lower p) seen) (opens p) refl refl refl f
  where
    by : (x s : Bool) (o : Option BodyStage) → is_private p ≡ x → contains_text (lower p) seen ≡ s → opens p ≡ o
        → (if x then Some (InPrivate id e []) else (if s then None else opened_at id seen e (lower p) o)) ≡ Some t → HasKnown t
    by true s o g h i f = let same : InPrivate id e [] ≡ t = cc in subst HasKnown same tt
    by false true o g h i f = cc
    by false false None g h i f = cc
    by false false (Some b) g h i f =
        let same : AtBlock id seen e (lower p) b ≡ t = cc in
        subst HasKnown same (AreApart-push seen (lower p) are.0 h, each-append (λ k. is_known k ≡ true) seen (lower p ∷ []) are.1 (opens_known p b i, tt))

front_known : (l : Option (Option LanguageId)) (m : Option LanguageId) (p : Text) (t : TagStage)
    → after_front language_after language_ends body_after body_ends opens put_part no_extensions is_private is_private_piece l m p ≡ Some t → HasKnown t
front_known (Some l) m p t e = let same : InFront l ≡ t = cc in subst HasKnown same tt
front_known None (Some id) p t e = part_known id [] no_extensions p t none_known e
front_known None None p t e = cc

first_known : (id : LanguageId) (seen : List Text) (e : ExtensionMeanings) (k : Text) (o : Option BodyStage) (t : TagStage) → AreKnown (seen ++ k ∷ [])
    → at_block language_after language_ends body_after body_ends opens put_part no_extensions is_private is_private_piece id seen e k o ≡ Some t → HasKnown t
first_known id seen e k None t are f = cc
first_known id seen e k (Some b) t are f = let same : InBlock id seen e k b ≡ t = cc in subst HasKnown same are

block_known : (id : LanguageId) (seen : List Text) (e : ExtensionMeanings) (k : Text) (o : Option BodyStage) (v : Option Part) (p : Text) (t : TagStage) → AreKnown (seen ++ k ∷ [])
    → after_block language_after language_ends body_after body_ends opens put_part no_extensions is_private is_private_piece id seen e k o v p ≡ Some t → HasKnown t
block_known id seen e k (Some b) v p t are f = let same : InBlock id seen e k b ≡ t = cc in subst HasKnown same are
block_known id seen e k None (Some v) p t are f = part_known id (seen ++ k ∷ []) (put_part k v e) p t are f
block_known id seen e k None None p t are f = cc

private_known : (id : LanguageId) (e : ExtensionMeanings) (own : List Text) (b : Bool) (t : TagStage) → (if b then Some (InPrivate id e own) else None) ≡ Some t → HasKnown t
private_known id e own true t f = let same : InPrivate id e own ≡ t = cc in subst HasKnown same tt
private_known id e own false t f = cc

step_known : (s : TagStage) (p : Text) (t : TagStage) → tag_after s p ≡ Some t → HasKnown s → HasKnown t
unfolding whole_after
step_known (InFront l) p t e are = front_known (language_after l p) (language_ends l) p t e
step_known (AtBlock id seen x k b) p t e are = first_known id seen x k (body_after b p) t are e
step_known (InBlock id seen x k b) p t e are = block_known id seen x k (body_after b p) (body_ends b) p t are e
step_known (InPrivate id x own) p t e are = private_known id x (own ++ lower p ∷ []) (is_private_piece p) t e

run_known : (o : Option TagStage) (taken : List Text) (s : TagStage) → IfSome o HasKnown → run tag_after o taken ≡ Some s → HasKnown s
run_known None taken s are reached = cc
run_known (Some t) [] s are reached = let same : t ≡ s = cc in subst HasKnown same are
run_known (Some t) (p ∷ taken) s are reached = run_known (tag_after t p) taken s (by (tag_after t p) refl) reached
  where
    by : (o : Option TagStage) → tag_after t p ≡ o → IfSome o HasKnown
    by None e = tt
    by (Some next) e = step_known t p next e are

-- ---- so they are few

member_known : (ts : List Text) (q : Text) → Each is_known ts → contains_text q ts ≡ true → is_known q ≡ true
member_known [] q each is = cc
member_known (t ∷ ts) q each is = by (same_text q t) (member_known ts q each.1) refl
  where
    by : (b : Bool) → (contains_text q ts ≡ true → is_known q ≡ true) → same_text q t ≡ b → is_known q ≡ true
    by true rest e = ap is_known (same_text_equal q t e) ∙ each.0
    by false rest e = rest (sym (ap (λ b. b || contains_text q ts) e) ∙ is)

known_few : (seen : List Text) (k : Text) → AreKnown (seen ++ k ∷ []) → length seen < 36
known_few seen k are =
    let most : length (seen ++ k ∷ []) ≤ 36 = length-le_from_is_member nat_list_eq_equiv (seen ++ k ∷ []) (singletons known) are.0 (λ q. member_known (seen ++ k ∷ []) q are.1) in
    omega (arith, most, length-append seen (k ∷ []))

few_before : (s : TagStage) → HasKnown s → HasFewBefore s
few_before (InFront l) are = tt
few_before (AtBlock id seen e k b) are = known_few seen k are
few_before (InBlock id seen e k b) are = known_few seen k are
few_before (InPrivate id e own) are = tt

-- at each stage that is reached
pub reached_few : (taken : List Text) (s : TagStage) → run tag_after (Some tag_start) taken ≡ Some s → HasFewBefore s
reached_few taken s reached = few_before s (run_known (Some tag_start) taken s tt reached)
