-- The stages of a language part are a right reader, as a front and as the head of `t`.
use Rattle.std.proofs.Common.{◌≡◌, Bool, true, false, not, ◌&&◌, List, [], ◌∷◌, ◌++◌, Option, None, Some, IfSome, map, fold, option_map, option_to_list, codes, sym, refl, ap, ◌∙◌, subst, append_assoc, append-nil}
use Rattle.std.specs.Prelude.{if◌then◌else◌, is_none}
use Rattle.std.specs.List.{IsDistinct}
use Rattle.std.specs.Ordering.{match_ordering}
use Rattle.std.specs.declared.cmp.Ordering.{Ordering}
use Rattle.std.specs.declared.cmp.Ordering.TheVariants.{Less, Equal, Greater}
use Rattle.std.proofs.Math.Bool.{and-false}
use Rattle.std.proofs.lemmas.List.{map-append}
use Rattle.std.proofs.lemmas.Bool.{and_parts, not-true}
use Rattle.icu_locale_core_grammar.specs.Subtags.{Text, is_language, is_script, is_region, is_variant, lower, title, upper}
use Rattle.icu_locale_core_grammar.specs.Collections.{Each, AreApart, text_cmp, contains_text, insert_text, set_of}
use Rattle.icu_locale_core_grammar.specs.LanguagePart.{WrittenLanguage, spelled_language, IsLanguagePart, LanguageId, language_meaning, MeansLanguage, MeansInner}
use Rattle.icu_locale_core_grammar.specs.Stepping.{run, CanEnd, IsReader}
use Rattle.icu_locale_core_grammar.specs.TagStages.{only_language, has_none, fits_script, fits_region, fits_variant, with_script, with_region, with_variant, with_piece, language_after, language_ends, inner_ends}
use Rattle.icu_locale_core_grammar.proofs.ListLemmas.{fold-append, each-append, mapped_some}
use Rattle.icu_locale_core_grammar.proofs.SubtagLemmas.{region_no_script, variant_no_script, variant_no_region}
use Rattle.icu_locale_core_grammar.proofs.CollectionLemmas.{AreApart-push, apart_new}
use Rattle.icu_locale_core_grammar.proofs.SetLemmas.{contains-set_of, put_text}
use Rattle.icu_locale_core_grammar.proofs.Runs.{run_joined, run_begun, run_keeps}

-- ---- a set that took a text is not empty

insert_filled : (t : Text) (us : List Text) → has_none (insert_text t us) ≡ false
insert_filled t [] = refl
insert_filled t (u ∷ us) = by_order (text_cmp t u)
  where
    by_order : (o : Ordering) → has_none (match_ordering o (t ∷ u ∷ us) (u ∷ us) (u ∷ insert_text t us)) ≡ false
    by_order Less = refl
    by_order Equal = refl
    by_order Greater = refl

fold_filled : (set ts : List Text) → has_none set ≡ false → has_none (fold put_text set ts) ≡ false
fold_filled set [] e = e
fold_filled set (t ∷ ts) e = fold_filled (insert_text t set) ts (insert_filled t set)

pub set_filled : (t : Text) (ts : List Text) → has_none (set_of (t ∷ ts)) ≡ false
set_filled t ts = fold_filled (t ∷ []) ts refl

apart_none : AreApart []
unfolding IsDistinct
apart_none = tt

-- ---- what is found is meant

-- a language part as it is written, field by field
abbrev written_of : Text → Option Text → Option Text → List Text → WrittenLanguage
written_of language script region variants = record { language = language; script = script; region = region; variants = variants }

script_adds : (language : Text) (script region : Option Text) (variants : List Text) (p : Text) → IsLanguagePart (written_of language script region variants)
    → fits_script (language_meaning (written_of language script region variants)) p ≡ true
    → MeansLanguage (spelled_language (written_of language script region variants) ++ p ∷ []) (with_script (language_meaning (written_of language script region variants)) p)
script_adds language None None [] p sound fits =
    record { written = written_of language (Some p) None []; sound = record { language = sound.language; script = fits; region = tt; variants = tt; apart = apart_none }; parts = refl; meant = refl }
script_adds language None None (v ∷ vs) p sound fits =
    let f = set_filled (lower v) (map lower vs) in
    let g = (and_parts (has_none (set_of (lower v ∷ map lower vs))) (is_script p) fits).0 in cc
script_adds language None (Some r) variants p sound fits = cc
script_adds language (Some s) region variants p sound fits = cc

region_adds : (language : Text) (script region : Option Text) (variants : List Text) (p : Text) → IsLanguagePart (written_of language script region variants)
    → fits_region (language_meaning (written_of language script region variants)) p ≡ true
    → MeansLanguage (spelled_language (written_of language script region variants) ++ p ∷ []) (with_region (language_meaning (written_of language script region variants)) p)
region_adds language script None [] p sound fits =
    record {
      written = written_of language script (Some p) [];
      sound = record { language = sound.language; script = sound.script; region = fits; variants = tt; apart = apart_none };
      parts = ap (λ l. language ∷ (l ++ p ∷ [])) (sym (append-nil (option_to_list script)));
      meant = refl;
    }
region_adds language script None (v ∷ vs) p sound fits =
    let f = set_filled (lower v) (map lower vs) in
    let g = (and_parts (has_none (set_of (lower v ∷ map lower vs))) (is_region p) fits).0 in cc
region_adds language script (Some r) variants p sound fits = cc

variant_adds : (w : WrittenLanguage) (p : Text) → IsLanguagePart w → fits_variant (language_meaning w) p ≡ true → MeansLanguage (spelled_language w ++ p ∷ []) (with_variant (language_meaning w) p)
variant_adds w p sound fits =
    let fs = and_parts (is_variant p) (not (contains_text (lower p) (set_of (map lower w.variants)))) fits in
    let new : contains_text (lower p) (map lower w.variants) ≡ false = sym (contains-set_of (lower p) (map lower w.variants)) ∙ not-true (contains_text (lower p) (set_of (map lower w.variants))) fs.1 in
    let apart : AreApart (map lower (w.variants ++ p ∷ [])) = subst AreApart (sym (map-append lower w.variants (p ∷ []))) (AreApart-push (map lower w.variants) (lower p) sound.apart new) in
    let set : set_of (map lower (w.variants ++ p ∷ [])) ≡ insert_text (lower p) (set_of (map lower w.variants)) =
    ap set_of (map-append lower w.variants (p ∷ [])) ∙ fold-append put_text [] (map lower w.variants) (lower p ∷ []) in
    record {
      written = written_of w.language w.script w.region (w.variants ++ p ∷ []);
      sound = record { language = sound.language; script = sound.script; region = sound.region; variants = each-append (λ v. is_variant v ≡ true) w.variants (p ∷ []) sound.variants (fs.0, tt); apart = apart };
      parts = sym (ap (λ l. w.language ∷ l) (append_assoc (option_to_list w.script) (option_to_list w.region ++ w.variants) (p ∷ []) ∙ ap (λ l. option_to_list w.script ++ l) (append_assoc (option_to_list w.region) w.variants (p ∷ []))));
      meant = ap (λ l. record { language = lower w.language; script = option_map title w.script; region = option_map upper w.region; variants = l }) set;
    }

-- a step of a language part, by the tests in their order
piece_adds : (taken : List Text) (id : LanguageId) (p : Text) (t : LanguageId) (a b c : Bool) → MeansLanguage taken id → fits_script id p ≡ a → fits_region id p ≡ b → fits_variant id p ≡ c
    → (if a then Some (with_script id p) else (if b then Some (with_region id p) else (if c then Some (with_variant id p) else None))) ≡ Some t → MeansLanguage (taken ++ p ∷ []) t
piece_adds taken id p t true b c m e f g q =
    let same : with_script id p ≡ t = cc in
    let w = m.written in
    let fits : fits_script (language_meaning w) p ≡ true = ap (λ i. fits_script i p) m.meant ∙ e in
    let means = script_adds w.language w.script w.region w.variants p m.sound fits in
    subst (MeansLanguage (taken ++ p ∷ [])) (ap (λ i. with_script i p) m.meant ∙ same) (subst (λ l. MeansLanguage (l ++ p ∷ []) (with_script (language_meaning w) p)) m.parts means)
piece_adds taken id p t false true c m e f g q =
    let same : with_region id p ≡ t = cc in
    let w = m.written in
    let fits : fits_region (language_meaning w) p ≡ true = ap (λ i. fits_region i p) m.meant ∙ f in
    let means = region_adds w.language w.script w.region w.variants p m.sound fits in
    subst (MeansLanguage (taken ++ p ∷ [])) (ap (λ i. with_region i p) m.meant ∙ same) (subst (λ l. MeansLanguage (l ++ p ∷ []) (with_region (language_meaning w) p)) m.parts means)
piece_adds taken id p t false false true m e f g q =
    let same : with_variant id p ≡ t = cc in
    let w = m.written in
    let fits : fits_variant (language_meaning w) p ≡ true = ap (λ i. fits_variant i p) m.meant ∙ g in
    let means = variant_adds w p m.sound fits in
    subst (MeansLanguage (taken ++ p ∷ [])) (ap (λ i. with_variant i p) m.meant ∙ same) (subst (λ l. MeansLanguage (l ++ p ∷ []) (with_variant (language_meaning w) p)) m.parts means)
piece_adds taken id p t false false false m e f g q = cc

with_piece_adds : (taken : List Text) (id : LanguageId) (p : Text) (t : LanguageId) → MeansLanguage taken id → with_piece id p ≡ Some t → MeansLanguage (taken ++ p ∷ []) t
unfolding with_piece
with_piece_adds taken id p t m q = piece_adds taken id p t (fits_script id p) (fits_region id p) (fits_variant id p) m refl refl refl q

first_adds : (p : Text) (t : Option LanguageId) (b : Bool) → is_language p ≡ b → (if b then Some (Some (only_language p)) else None) ≡ Some t → MeansInner (p ∷ []) t
first_adds p t true e q =
    let same : Some (only_language p) ≡ t = cc in
    subst (MeansInner (p ∷ [])) same (record { written = written_of p None None []; sound = record { language = e; script = tt; region = tt; variants = tt; apart = apart_none }; parts = refl; meant = refl })
first_adds p t false e q = cc

pub language_adds : (taken : List Text) (s : Option LanguageId) (p : Text) (t : Option LanguageId) → MeansInner taken s → language_after s p ≡ Some t → MeansInner (taken ++ p ∷ []) t
language_adds taken None p t means q = subst (λ l. MeansInner (l ++ p ∷ []) t) (sym means) (first_adds p t (is_language p) refl q)
language_adds taken (Some id) p t means q =
    let f = mapped_some Some (with_piece id p) t q in
    subst (MeansInner (taken ++ p ∷ [])) f.2 (with_piece_adds taken id p f.0 means f.1)

-- what was read stays
pub language_stands : (ps : List Text) (s : Option LanguageId) → run language_after (Some None) ps ≡ Some s → MeansInner ps s
language_stands ps s e = run_keeps language_after MeansInner language_adds ps [] None s refl e

-- ---- what is meant is found

first_steps : (p : Text) → is_language p ≡ true → language_after None p ≡ Some (Some (only_language p))
first_steps p e = ap (λ b. if b then Some (Some (only_language p)) else None) e

script_steps : (id : LanguageId) (p : Text) → fits_script id p ≡ true → language_after (Some id) p ≡ Some (Some (with_script id p))
unfolding with_piece
script_steps id p e = ap (λ b. option_map Some (if b then Some (with_script id p) else (if fits_region id p then Some (with_region id p) else (if fits_variant id p then Some (with_variant id p) else None)))) e

region_steps : (id : LanguageId) (p : Text) → fits_script id p ≡ false → fits_region id p ≡ true → language_after (Some id) p ≡ Some (Some (with_region id p))
unfolding with_piece
region_steps id p e f =
    ap (λ b. option_map Some (if b then Some (with_script id p) else (if fits_region id p then Some (with_region id p) else (if fits_variant id p then Some (with_variant id p) else None)))) e
    ∙ ap (λ b. option_map Some (if b then Some (with_region id p) else (if fits_variant id p then Some (with_variant id p) else None))) f

variant_steps : (id : LanguageId) (p : Text) → is_variant p ≡ true → contains_text (lower p) id.variants ≡ false → language_after (Some id) p ≡ Some (Some (with_variant id p))
unfolding with_piece
variant_steps id p e new =
    ap (λ b. option_map Some (if b then Some (with_script id p) else (if fits_region id p then Some (with_region id p) else (if fits_variant id p then Some (with_variant id p) else None))))
    (ap (λ b. (is_none id.script && (is_none id.region && has_none id.variants)) && b) (variant_no_script p e) ∙ and-false (is_none id.script && (is_none id.region && has_none id.variants)))
    ∙ ap (λ b. option_map Some (if b then Some (with_region id p) else (if fits_variant id p then Some (with_variant id p) else None)))
    (ap (λ b. (is_none id.region && has_none id.variants) && b) (variant_no_region p e) ∙ and-false (is_none id.region && has_none id.variants))
    ∙ ap (λ b. option_map Some (if b then Some (with_variant id p) else None)) (ap (λ b. b && not (contains_text (lower p) id.variants)) e ∙ ap not new)

abbrev id_of : Text → Option Text → Option Text → List Text → LanguageId
id_of language script region variants = record { language = language; script = script; region = region; variants = variants }

script_runs : (language : Text) (script : Option Text) → IfSome script (λ p. is_script p ≡ true)
    → run language_after (Some (Some (id_of language None None []))) (option_to_list script) ≡ Some (Some (id_of language (option_map title script) None []))
script_runs language None is = refl
script_runs language (Some p) is = run_begun language_after (Some (id_of language None None [])) (Some (id_of language (Some (title p)) None [])) _ p [] (script_steps (id_of language None None []) p is) refl

region_runs : (language : Text) (script region : Option Text) → IfSome region (λ p. is_region p ≡ true)
    → run language_after (Some (Some (id_of language script None []))) (option_to_list region) ≡ Some (Some (id_of language script (option_map upper region) []))
region_runs language script None is = refl
region_runs language script (Some p) is =
    let no_script : fits_script (id_of language script None []) p ≡ false = ap (λ b. (is_none script && true) && b) (region_no_script p is) ∙ and-false (is_none script && true) in
    run_begun language_after (Some (id_of language script None [])) (Some (id_of language script (Some (upper p)) [])) _ p [] (region_steps (id_of language script None []) p no_script is) refl

variants_run : (language : Text) (script region : Option Text) (before vs : List Text) → Each is_variant vs → AreApart (map lower (before ++ vs))
    → run language_after (Some (Some (id_of language script region (set_of (map lower before))))) vs ≡ Some (Some (id_of language script region (set_of (map lower (before ++ vs)))))
variants_run language script region before [] each apart = ap (λ l. Some (Some (id_of language script region (set_of (map lower l))))) (sym (append-nil before))
variants_run language script region before (v ∷ vs) each apart =
    let new : contains_text (lower v) (map lower before) ≡ false = apart_new (map lower before) (lower v) (map lower vs) (subst AreApart (map-append lower before (v ∷ vs)) apart) in
    let here = variant_steps (id_of language script region (set_of (map lower before))) v each.0 (contains-set_of (lower v) (map lower before) ∙ new) in
    let set : insert_text (lower v) (set_of (map lower before)) ≡ set_of (map lower (before ++ v ∷ [])) =
    sym (ap set_of (map-append lower before (v ∷ [])) ∙ fold-append put_text [] (map lower before) (lower v ∷ [])) in
    let one : language_after (Some (id_of language script region (set_of (map lower before)))) v ≡ Some (Some (id_of language script region (set_of (map lower (before ++ v ∷ []))))) =
    here ∙ ap (λ l. Some (Some (id_of language script region l))) set in
    let long : (before ++ v ∷ []) ++ vs ≡ before ++ (v ∷ vs) = append_assoc before (v ∷ []) vs in
    run_begun language_after (Some (id_of language script region (set_of (map lower before)))) (Some (id_of language script region (set_of (map lower (before ++ v ∷ []))))) _ v vs one
    (variants_run language script region (before ++ v ∷ []) vs each.1 (subst (λ l. AreApart (map lower l)) (sym long) apart) ∙ ap (λ l. Some (Some (id_of language script region (set_of (map lower l))))) long)

pub language_runs : (ps : List Text) (id : LanguageId) → MeansLanguage ps id → run language_after (Some None) ps ≡ Some (Some id)
language_runs ps id m =
    let w = m.written in
    let l = lower w.language in
    let s = option_map title w.script in
    let r = option_map upper w.region in
    let variants = variants_run l s r [] w.variants m.sound.variants m.sound.apart in
    let region = run_joined language_after (Some (id_of l s None [])) (Some (id_of l s r [])) _ (option_to_list w.region) w.variants (region_runs l s w.region m.sound.region) variants in
    let script = run_joined language_after (Some (id_of l None None [])) (Some (id_of l s None [])) _ (option_to_list w.script) (option_to_list w.region ++ w.variants) (script_runs l w.script m.sound.script) region in
    let whole : run language_after (Some None) (spelled_language w) ≡ Some (Some (language_meaning w)) =
    run_begun language_after None (Some (id_of l None None [])) _ w.language (option_to_list w.script ++ (option_to_list w.region ++ w.variants)) (first_steps w.language m.sound.language) script in
    subst (λ x. run language_after (Some None) x ≡ Some (Some id)) m.parts (whole ∙ ap (λ i. Some (Some i)) m.meant)

-- ---- the readers

front_found : (ps : List Text) (s : Option LanguageId) (id : LanguageId) → run language_after (Some None) ps ≡ Some s → language_ends s ≡ Some id → MeansLanguage ps id
front_found ps s id e f = subst (MeansInner ps) f (language_stands ps s e)

front_goes_on : CanEnd language_after language_ends
front_goes_on None = (codes "und" ∷ [], Some (only_language (codes "und")), only_language (codes "und"), refl, refl)
front_goes_on (Some id) = ([], Some id, id, refl, refl)

pub language_reader : IsReader language_after None language_ends MeansLanguage
language_reader = record { found = front_found; only = λ ps id m. (Some id, language_runs ps id m, refl); goes_on = front_goes_on }

inner_found : (ps : List Text) (s t : Option LanguageId) → run language_after (Some None) ps ≡ Some s → inner_ends s ≡ Some t → MeansInner ps t
inner_found ps s t e f = let same : s ≡ t = cc in subst (MeansInner ps) same (language_stands ps s e)

inner_only : (ps : List Text) (t : Option LanguageId) → MeansInner ps t → (s : Option LanguageId) × (run language_after (Some None) ps ≡ Some s) × (inner_ends s ≡ Some t)
inner_only ps None m = (None, ap (run language_after (Some None)) m, refl)
inner_only ps (Some id) m = (Some id, language_runs ps id m, refl)

pub inner_reader : IsReader language_after None inner_ends MeansInner
inner_reader = record { found = inner_found; only = inner_only; goes_on = λ s. ([], s, s, refl, refl) }
