-- The step of a language part with at most one variant, by what its three tests answered.
use Rattle.std.proofs.Common.{◌≡◌, Bool, true, false, not, ◌&&◌, ◌||◌, [], ◌∷◌, Option, None, Some, option_map, refl, sym, ap, ◌∙◌}
use Rattle.std.specs.Prelude.{is_none, if◌then◌else◌}
use Rattle.std.specs.Ordering.{match_ordering, is_eq}
use Rattle.std.specs.Cmp.Lexicographic.{texts_ties}
use Rattle.std.specs.declared.cmp.Ordering.{Ordering}
use Rattle.std.specs.declared.cmp.Ordering.TheVariants.{Less, Equal, Greater}
use Rattle.std.proofs.lemmas.Bool.{and_parts, not-true}
use Rattle.icu_locale_core_grammar.specs.Subtags.{Text, is_variant, same_text, title, upper, lower}
use Rattle.icu_locale_core_grammar.specs.Collections.{text_cmp, contains_text}
use Rattle.icu_locale_core_grammar.specs.LanguagePart.{LanguageId}
use Rattle.icu_locale_core_grammar.specs.SingleVariant.{has_short}
use Rattle.icu_locale_core_grammar.specs.TagStages.{fits_script, fits_region, fits_variant, with_script, with_region, with_variant, with_piece}
use Rattle.icu_locale_core_grammar.proofs.SingleReader.{always_short}
use Rattle.icu_locale_core_langid.specs.OneVariant.{one_variant, kept_one, one_variant_after}
use Rattle.icu_locale_core_langid.proofs.SteppingLemmas.{failed, passed, found, by_tests}

-- ---- a step with the test for a second variant

step_kept : (id t : LanguageId) (p : Text) → with_piece id p ≡ Some t → has_short t.variants ≡ true → Some (Some t) ≡ one_variant_after (Some id) p
step_kept id t p e short = sym (ap (λ o. kept_one (option_map Some o)) e ∙ ap (λ b. if b then Some (Some t) else None) short)

step_long : (id t : LanguageId) (p : Text) → with_piece id p ≡ Some t → has_short t.variants ≡ false → None ≡ one_variant_after (Some id) p
step_long id t p e long = sym (ap (λ o. kept_one (option_map Some o)) e ∙ ap (λ b. if b then Some (Some t) else None) long)

step_refused : (id : LanguageId) (p : Text) → with_piece id p ≡ None → None ≡ one_variant_after (Some id) p
step_refused id p e = sym (ap (λ o. kept_one (option_map Some o)) e)

-- ---- by the three tests

pub one_script : (l : Text) (s r v : Option Text) (p q : Text) → Some q ≡ (if fits_script (one_variant l s r v) p then Some (title p) else None)
    → Some (Some (one_variant l (Some q) r v)) ≡ one_variant_after (Some (one_variant l s r v)) p
one_script l s r v p q e =
    let id = one_variant l s r v in
    let step : with_piece id p ≡ Some (with_script id p) = by_tests id p true (fits_region id p) (fits_variant id p) (passed (fits_script id p) (title p) q e) refl refl in
    ap (λ t. Some (Some (one_variant l (Some t) r v))) (found (fits_script id p) (title p) q e) ∙ step_kept id (with_script id p) p step (always_short v)

pub one_region : (l : Text) (s r v : Option Text) (p q : Text) → None ≡ (if fits_script (one_variant l s r v) p then Some (title p) else None)
    → Some q ≡ (if fits_region (one_variant l s r v) p then Some (upper p) else None)
    → Some (Some (one_variant l s (Some q) v)) ≡ one_variant_after (Some (one_variant l s r v)) p
one_region l s r v p q e f =
    let id = one_variant l s r v in
    let step : with_piece id p ≡ Some (with_region id p) = by_tests id p false true (fits_variant id p) (failed (fits_script id p) (title p) e) (passed (fits_region id p) (upper p) q f) refl in
    ap (λ t. Some (Some (one_variant l s (Some t) v))) (found (fits_region id p) (upper p) q f) ∙ step_kept id (with_region id p) p step (always_short v)

pub one_new_variant : (l : Text) (s r v : Option Text) (p q : Text) → None ≡ (if fits_script (one_variant l s r v) p then Some (title p) else None)
    → None ≡ (if fits_region (one_variant l s r v) p then Some (upper p) else None) → Some q ≡ (if is_none v && is_variant p then Some (lower p) else None)
    → Some (Some (one_variant l s r (Some q))) ≡ one_variant_after (Some (one_variant l s r v)) p
one_new_variant l s r (Some v) p q e f g = cc
one_new_variant l s r None p q e f g =
    let id = one_variant l s r None in
    let fits : fits_variant id p ≡ true = ap (λ b. b && true) (passed (is_variant p) (lower p) q g) in
    let step : with_piece id p ≡ Some (with_variant id p) = by_tests id p false false true (failed (fits_script id p) (title p) e) (failed (fits_region id p) (upper p) f) fits in
    ap (λ t. Some (Some (one_variant l s r (Some t)))) (found (is_variant p) (lower p) q g) ∙ step_kept id (with_variant id p) p step refl

-- a set with a second text is long
second_long : (t u : Text) (o : Ordering) → text_cmp t u ≡ o → same_text t u ≡ false → has_short (match_ordering o (t ∷ u ∷ []) (u ∷ []) (u ∷ t ∷ [])) ≡ false
second_long t u Less e new = refl
second_long t u Equal e new = sym (sym new ∙ texts_ties t u ∙ ap is_eq e)
second_long t u Greater e new = refl

or_left : (a b : Bool) → (a || b) ≡ false → a ≡ false
or_left true b e = cc
or_left false b e = refl

none_fits : (l : Text) (s r v : Option Text) (p : Text) (c : Bool) → fits_variant (one_variant l s r v) p ≡ c → fits_script (one_variant l s r v) p ≡ false → fits_region (one_variant l s r v) p ≡ false
    → None ≡ (if is_none v && is_variant p then Some (lower p) else None) → None ≡ one_variant_after (Some (one_variant l s r v)) p
none_fits l s r v p false fits e f g =
    let id = one_variant l s r v in step_refused id p (by_tests id p false false false e f fits)
none_fits l s r None p true fits e f g =
    let g = failed (is_variant p) (lower p) g in
    let is = (and_parts (is_variant p) (not (contains_text (lower p) [])) fits).0 in cc
none_fits l s r (Some v) p true fits e f g =
    let id = one_variant l s r (Some v) in
    let new : contains_text (lower p) (v ∷ []) ≡ false = not-true (contains_text (lower p) (v ∷ [])) (and_parts (is_variant p) (not (contains_text (lower p) (v ∷ []))) fits).1 in
    step_long id (with_variant id p) p (by_tests id p false false true e f fits) (second_long (lower p) v (text_cmp (lower p) v) refl (or_left (same_text (lower p) v) false new))

pub one_refused : (l : Text) (s r v : Option Text) (p : Text) → None ≡ (if fits_script (one_variant l s r v) p then Some (title p) else None)
    → None ≡ (if fits_region (one_variant l s r v) p then Some (upper p) else None) → None ≡ (if is_none v && is_variant p then Some (lower p) else None)
    → None ≡ one_variant_after (Some (one_variant l s r v)) p
one_refused l s r v p e f g =
    let id = one_variant l s r v in
    none_fits l s r v p (fits_variant id p) refl (failed (fits_script id p) (title p) e) (failed (fits_region id p) (upper p) f) g
