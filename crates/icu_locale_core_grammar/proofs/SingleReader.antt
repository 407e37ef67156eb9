-- The stages of a tag of one variant and one keyword are a right reader, and its faults have the names of their places.
use Rattle.std.proofs.Common.{◌≡◌, Bool, true, false, ◌||◌, List, [], ◌∷◌, ◌++◌, Option, None, Some, option_to_list, codes, sym, refl, ap, ◌∙◌, subst, append_assoc, append-nil, ◌⊎◌, inl, inr}
use Rattle.std.specs.Prelude.{if◌then◌else◌}
use Rattle.std.specs.List.{list_any}
use Rattle.std.specs.Ordering.{match_ordering}
use Rattle.std.specs.declared.cmp.Ordering.{Ordering}
use Rattle.std.specs.declared.cmp.Ordering.TheVariants.{Less, Equal, Greater}
use Rattle.std.proofs.lemmas.List.Folds.{list_any-append}
use Rattle.std.proofs.lemmas.Bool.{or_from, or_left, or_right, false_from_ne_true}
use Rattle.icu_locale_core_grammar.specs.declared.error.ParseError.{ParseError}
use Rattle.icu_locale_core_grammar.specs.declared.error.ParseError.TheVariants.{InvalidSubtag, InvalidExtension}
use Rattle.icu_locale_core_grammar.specs.Subtags.{Text, is_single, is_value, is_key, is_unicode, lower}
use Rattle.icu_locale_core_grammar.specs.Collections.{text_cmp, insert_text}
use Rattle.icu_locale_core_grammar.specs.LanguagePart.{LanguageId, MeansLanguage, MeansInner}
use Rattle.icu_locale_core_grammar.specs.FaultyPiece.{first_piece, IsAccepted}
use Rattle.icu_locale_core_grammar.specs.Stepping.{run, CanEnd, IsReader}
use Rattle.icu_locale_core_grammar.specs.TagStages.{only_language, fits_script, fits_region, fits_variant, with_script, with_region, with_variant, with_piece, language_after}
use Rattle.icu_locale_core_grammar.specs.SingleVariant.{SingleMeaning, piece_meaning, MeansKeyword, MeansSingle, begins_extension, single_name, HasSingleFault, SingleStage, InLanguage, AfterUnicode, AfterKey, AfterValue, has_short, kept_short, after_language, single_after, single_of, single_ends, single_fault}
use Rattle.icu_locale_core_grammar.specs.TagPreferences.{least_of}
use Rattle.icu_locale_core_grammar.proofs.ListLemmas.{mapped_some}
use Rattle.icu_locale_core_grammar.proofs.SingletonLemmas.{unicode_single}
use Rattle.icu_locale_core_grammar.proofs.Runs.{run_joined, run_begun, run_keeps, first_step, Stop, answered}
use Rattle.icu_locale_core_grammar.proofs.LanguageReader.{language_adds, language_runs}
use Rattle.icu_locale_core_grammar.proofs.BodyReaders.{language_closed}

-- ---- at most one variant

abbrev pub IsShort : Option LanguageId → Type 0
IsShort None = Unit {0}
IsShort (Some id) = has_short id.variants ≡ true

pub short_same : (vs : List Text) → has_short vs ≡ true → option_to_list (least_of vs) ≡ vs
short_same [] e = refl
short_same (v ∷ []) e = refl
short_same (v ∷ w ∷ ws) e = cc

pub always_short : (v : Option Text) → has_short (option_to_list v) ≡ true
always_short None = refl
always_short (Some v) = refl

pub first_again : (v : Option Text) → least_of (option_to_list v) ≡ v
first_again None = refl
first_again (Some v) = refl

-- a set that took a text is no shorter
insert_short : (t : Text) (us : List Text) → has_short (insert_text t us) ≡ true → has_short us ≡ true
insert_short t [] e = refl
insert_short t (u ∷ []) e = refl
insert_short t (u ∷ w ∷ ws) e = by_orders (text_cmp t u) (text_cmp t w) e
  where
    by_orders : (o r : Ordering) → has_short (match_ordering o (t ∷ u ∷ w ∷ ws) (u ∷ w ∷ ws) (u ∷ match_ordering r (t ∷ w ∷ ws) (w ∷ ws) (w ∷ insert_text t ws))) ≡ true → false ≡ true
    by_orders Less r e = e
    by_orders Equal r e = e
    by_orders Greater Less e = e
    by_orders Greater Equal e = e
    by_orders Greater Greater e = e

piece_short : (id : LanguageId) (p : Text) (t : LanguageId) (a b c : Bool) → (if a then Some (with_script id p) else (if b then Some (with_region id p) else (if c then Some (with_variant id p) else None))) ≡ Some t → has_short t.variants ≡ true → has_short id.variants ≡ true
piece_short id p t true b c e short = let same : with_script id p ≡ t = cc in ap (λ x. has_short x.variants) same ∙ short
piece_short id p t false true c e short = let same : with_region id p ≡ t = cc in ap (λ x. has_short x.variants) same ∙ short
piece_short id p t false false true e short = let same : with_variant id p ≡ t = cc in insert_short (lower p) id.variants (ap (λ x. has_short x.variants) same ∙ short)
piece_short id p t false false false e short = cc

with_piece_short : (id : LanguageId) (p : Text) (t : LanguageId) → with_piece id p ≡ Some t → has_short t.variants ≡ true → has_short id.variants ≡ true
unfolding with_piece
with_piece_short id p t e short = piece_short id p t (fits_script id p) (fits_region id p) (fits_variant id p) e short

step_short : (l : Option LanguageId) (p : Text) (m : Option LanguageId) → language_after l p ≡ Some m → IsShort m → IsShort l
step_short None p m e short = tt
step_short (Some id) p m e short =
    let f = mapped_some Some (with_piece id p) m e in
    with_piece_short id p f.0 f.1 (subst IsShort (sym f.2) short)

run_short : (ps : List Text) (l m : Option LanguageId) → run language_after (Some l) ps ≡ Some m → IsShort m → IsShort l
run_short [] l m e short = let same : l ≡ m = cc in subst IsShort (sym same) short
run_short (p ∷ ps) l m e short =
    let f = first_step language_after l m p ps e in
    step_short l p f.0 f.1 (run_short ps f.0 m f.2 short)

-- a step of the language part gives one
pub step_there : (l : Option LanguageId) (p : Text) (m : Option LanguageId) → language_after l p ≡ Some m → (id : LanguageId) × (m ≡ Some id)
step_there None p None e = absurd (none_there (only_language p) _ e)
  where
    none_there : (id : LanguageId) (b : Bool) → (if b then Some (Some id) else None) ≡ Some None → ⊥
    none_there id true e = cc
    none_there id false e = cc
step_there None p (Some id) e = (id, refl)
step_there (Some id) p m e = let f = mapped_some Some (with_piece id p) m e in (f.0, sym f.2)

-- ---- what is found is meant

record Behind (taken : List Text) (id : LanguageId) (tail : List Text) : Type 0 where
  front : List Text
  parts : front ++ tail ≡ taken
  meant : MeansLanguage front id
  short : has_short id.variants ≡ true

abbrev Stands : List Text → SingleStage → Type 0
Stands taken (InLanguage l) = MeansInner taken l × IsShort l
Stands taken (AfterUnicode id) = (u : Text) × Behind taken id (u ∷ []) × (is_unicode u ≡ true)
Stands taken (AfterKey id k) = (u : Text) × (q : Text) × Behind taken id (u ∷ q ∷ []) × (is_unicode u ≡ true) × (is_key q ≡ true) × (lower q ≡ k)
Stands taken (AfterValue id k v) = (u : Text) × (q : Text) × (w : Text) × Behind taken id (u ∷ q ∷ w ∷ []) × (is_unicode u ≡ true) × (is_key q ≡ true) × (lower q ≡ k) × (is_value w ≡ true) × (piece_meaning w ≡ v)

further : (taken : List Text) (id : LanguageId) (tail : List Text) (p : Text) → Behind taken id tail → Behind (taken ++ p ∷ []) id (tail ++ p ∷ [])
further taken id tail p b = record { front = b.front; parts = sym (append_assoc b.front tail (p ∷ [])) ∙ ap (λ l. l ++ p ∷ []) b.parts; meant = b.meant; short = b.short }

kept_adds : (taken : List Text) (m : Option LanguageId) (t : SingleStage) → MeansInner taken m → kept_short m ≡ Some t → Stands taken t
kept_adds taken None t means e = cc
kept_adds taken (Some id) t means e = by_test (has_short id.variants) refl e
  where
    by_test : (b : Bool) → has_short id.variants ≡ b → (if b then Some (InLanguage (Some id)) else None) ≡ Some t → Stands taken t
    by_test true f q = let same : InLanguage (Some id) ≡ t = cc in subst (Stands taken) same (means, f)
    by_test false f q = cc

language_adds_one : (taken : List Text) (l : Option LanguageId) (p : Text) (t : SingleStage) (o : Option (Option LanguageId)) → Stands taken (InLanguage l) → language_after l p ≡ o → after_language l o p ≡ Some t → Stands (taken ++ p ∷ []) t
language_adds_one taken l p t (Some m) s e q = kept_adds (taken ++ p ∷ []) m t (language_adds taken l p m s.0 e) q
language_adds_one taken None p t None s e q = cc
language_adds_one taken (Some id) p t None s e q = by_test (is_unicode p) refl q
  where
    by_test : (b : Bool) → is_unicode p ≡ b → (if b then Some (AfterUnicode id) else None) ≡ Some t → Stands (taken ++ p ∷ []) t
    by_test true f q = let same : AfterUnicode id ≡ t = cc in subst (Stands (taken ++ p ∷ [])) same (p, record { front = taken; parts = refl; meant = s.0; short = s.1 }, f)
    by_test false f q = cc

adds : (taken : List Text) (s : SingleStage) (p : Text) (t : SingleStage) → Stands taken s → single_after s p ≡ Some t → Stands (taken ++ p ∷ []) t
unfolding single_after
adds taken (InLanguage l) p t s q = language_adds_one taken l p t (language_after l p) s refl q
adds taken (AfterUnicode id) p t s q = by_test (is_key p) refl q
  where
    by_test : (b : Bool) → is_key p ≡ b → (if b then Some (AfterKey id (lower p)) else None) ≡ Some t → Stands (taken ++ p ∷ []) t
    by_test true f q = let same : AfterKey id (lower p) ≡ t = cc in subst (Stands (taken ++ p ∷ [])) same (s.0, p, further taken id (s.0 ∷ []) p s.1, s.2, f, refl)
    by_test false f q = cc
adds taken (AfterKey id k) p t s q = by_test (is_value p) refl q
  where
    by_test : (b : Bool) → is_value p ≡ b → (if b then Some (AfterValue id k (piece_meaning p)) else None) ≡ Some t → Stands (taken ++ p ∷ []) t
    by_test true f q = let same : AfterValue id k (piece_meaning p) ≡ t = cc in subst (Stands (taken ++ p ∷ [])) same (s.0, s.1, p, further taken id (s.0 ∷ s.1 ∷ []) p s.2, s.3, s.4, s.5, f, refl)
    by_test false f q = cc
adds taken (AfterValue id k v) p t s q = cc

stands : (ps : List Text) (s : SingleStage) → run single_after (Some (InLanguage None)) ps ≡ Some s → Stands ps s
stands ps s e = run_keeps single_after Stands adds ps [] (InLanguage None) s (refl, tt) e

-- the language part, as it is in a meaning
as_single : (front : List Text) (id : LanguageId) → MeansLanguage front id → has_short id.variants ≡ true → MeansLanguage front (record { language = id.language; script = id.script; region = id.region; variants = option_to_list (least_of id.variants) })
as_single front id a short = subst (λ vs. MeansLanguage front (record { language = id.language; script = id.script; region = id.region; variants = vs })) (sym (short_same id.variants short)) a

ends_well : (taken : List Text) (s : SingleStage) (m : SingleMeaning) → Stands taken s → single_ends s ≡ Some m → MeansSingle taken m
ends_well taken (InLanguage None) m s e = cc
ends_well taken (InLanguage (Some id)) m s e =
    let same : single_of id None ≡ m = cc in
    subst (MeansSingle taken) same (record { front = taken; last = []; parts = append-nil taken; language = as_single taken id s.0 s.1; keyword = refl })
ends_well taken (AfterUnicode id) m s e = cc
ends_well taken (AfterKey id k) m s e =
    let same : single_of id (Some (k, None)) ≡ m = cc in
    subst (MeansSingle taken) same (record { front = s.2.front; last = s.0 ∷ s.1 ∷ []; parts = s.2.parts; language = as_single s.2.front id s.2.meant s.2.short; keyword = (s.3, s.4, ap (λ q. Some (q, None)) (sym s.5)) })
ends_well taken (AfterValue id k v) m s e =
    let same : single_of id (Some (k, v)) ≡ m = cc in
    let both : Some (k, v) ≡ Some (lower s.1, piece_meaning s.2) = λ i. Some (sym s.6 i, sym s.8 i) in
    subst (MeansSingle taken) same (record { front = s.3.front; last = s.0 ∷ s.1 ∷ s.2 ∷ []; parts = s.3.parts; language = as_single s.3.front id s.3.meant s.3.short; keyword = (s.4, s.5, s.7, both) })

-- ---- what is meant is found

language_step : (l : Option LanguageId) (p : Text) (id : LanguageId) → language_after l p ≡ Some (Some id) → has_short id.variants ≡ true → single_after (InLanguage l) p ≡ Some (InLanguage (Some id))
unfolding single_after
language_step l p id e short = ap (λ o. after_language l o p) e ∙ ap (λ b. if b then Some (InLanguage (Some id)) else None) short

language_part : (ps : List Text) (l m : Option LanguageId) → run language_after (Some l) ps ≡ Some m → IsShort m → run single_after (Some (InLanguage l)) ps ≡ Some (InLanguage m)
language_part [] l m e short = let same : l ≡ m = cc in ap (λ x. Some (InLanguage x)) same
language_part (p ∷ ps) l m e short =
    let f = first_step language_after l m p ps e in
    let g = step_there l p f.0 f.1 in
    let here : IsShort (Some g.0) = subst IsShort g.1 (run_short ps f.0 m f.2 short) in
    run_begun single_after (InLanguage l) (InLanguage (Some g.0)) _ p ps (language_step l p g.0 (f.1 ∙ ap Some g.1) here)
    (language_part ps (Some g.0) m (subst (λ x. run language_after (Some x) ps ≡ Some m) g.1 f.2) short)

unicode_step : (id : LanguageId) (u : Text) → is_unicode u ≡ true → single_after (InLanguage (Some id)) u ≡ Some (AfterUnicode id)
unfolding single_after
unicode_step id u e = ap (λ o. after_language (Some id) o u) (language_closed (Some id) u (unicode_single u e)) ∙ ap (λ b. if b then Some (AfterUnicode id) else None) e

key_step : (id : LanguageId) (q : Text) → is_key q ≡ true → single_after (AfterUnicode id) q ≡ Some (AfterKey id (lower q))
unfolding single_after
key_step id q e = ap (λ b. if b then Some (AfterKey id (lower q)) else None) e

value_step : (id : LanguageId) (k w : Text) → is_value w ≡ true → single_after (AfterKey id k) w ≡ Some (AfterValue id k (piece_meaning w))
unfolding single_after
value_step id k w e = ap (λ b. if b then Some (AfterValue id k (piece_meaning w)) else None) e

abbrev Ends : SingleStage → List Text → SingleMeaning → Type 0
Ends s ps m = (t : SingleStage) × (run single_after (Some s) ps ≡ Some t) × (single_ends t ≡ Some m)

abbrev id_of : SingleMeaning → LanguageId
id_of m = record { language = m.language; script = m.script; region = m.region; variants = option_to_list m.variant }

ended : (m : SingleMeaning) (keyword : Option (Text × Option Text)) → m.keyword ≡ keyword → Some (single_of (id_of m) keyword) ≡ Some m
ended m keyword e = λ i. Some (record { language = m.language; script = m.script; region = m.region; variant = first_again m.variant i; keyword = sym e i })

keyword_runs : (last : List Text) (m : SingleMeaning) → MeansKeyword last m.keyword → Ends (InLanguage (Some (id_of m))) last m
keyword_runs [] m a = (InLanguage (Some (id_of m)), refl, ended m None a)
keyword_runs (u ∷ []) m a = absurd a
keyword_runs (u ∷ k ∷ []) m a = (
  AfterKey (id_of m) (lower k),
  run_begun single_after (InLanguage (Some (id_of m))) (AfterUnicode (id_of m)) _ u (k ∷ []) (unicode_step (id_of m) u a.0) (run_begun single_after (AfterUnicode (id_of m)) (AfterKey (id_of m) (lower k)) _ k [] (key_step (id_of m) k a.1) refl),
  ended m (Some (lower k, None)) a.2,
)
keyword_runs (u ∷ k ∷ v ∷ []) m a = (
  AfterValue (id_of m) (lower k) (piece_meaning v),
  run_begun single_after (InLanguage (Some (id_of m))) (AfterUnicode (id_of m)) _ u (k ∷ v ∷ []) (unicode_step (id_of m) u a.0)
      (run_begun single_after (AfterUnicode (id_of m)) (AfterKey (id_of m) (lower k)) _ k (v ∷ []) (key_step (id_of m) k a.1)
      (run_begun single_after (AfterKey (id_of m) (lower k)) (AfterValue (id_of m) (lower k) (piece_meaning v)) _ v [] (value_step (id_of m) (lower k) v a.2) refl)),
  ended m (Some (lower k, piece_meaning v)) a.3,
)
keyword_runs (u ∷ k ∷ v ∷ w ∷ rest) m a = absurd a

only : (ps : List Text) (m : SingleMeaning) → MeansSingle ps m → Ends (InLanguage None) ps m
only ps m a =
    let front = language_part a.front None (Some (id_of m)) (language_runs a.front (id_of m) a.language) (always_short m.variant) in
    let w = keyword_runs a.last m a.keyword in
    (w.0, subst (λ l. run single_after (Some (InLanguage None)) l ≡ Some w.0) a.parts (run_joined single_after (InLanguage None) (InLanguage (Some (id_of m))) _ a.front a.last front w.1), w.2)

goes_on : CanEnd single_after single_ends
goes_on (InLanguage None) = (codes "und" ∷ [], InLanguage (Some (only_language (codes "und"))), single_of (only_language (codes "und")) None, run_begun single_after (InLanguage None) (InLanguage (Some (only_language (codes "und")))) _ (codes "und") [] (language_step None (codes "und") (only_language (codes "und")) refl refl) refl, refl)
goes_on (InLanguage (Some id)) = ([], InLanguage (Some id), single_of id None, refl, refl)
goes_on (AfterUnicode id) = (codes "nu" ∷ [], AfterKey id (codes "nu"), single_of id (Some (codes "nu", None)), run_begun single_after (AfterUnicode id) (AfterKey id (codes "nu")) _ (codes "nu") [] (key_step id (codes "nu") refl) refl, refl)
goes_on (AfterKey id k) = ([], AfterKey id k, single_of id (Some (k, None)), refl, refl)
goes_on (AfterValue id k v) = ([], AfterValue id k v, single_of id (Some (k, v)), refl, refl)

pub single_reader : IsReader single_after (InLanguage None) single_ends MeansSingle
single_reader = record { found = λ ps s m e f. ends_well ps s m (stands ps s e) f; only = only; goes_on = goes_on }

-- ---- names

-- a language part has no piece of one character
pub language_plain : (ps : List Text) (l m : Option LanguageId) → run language_after (Some l) ps ≡ Some m → list_any is_single ps ≡ false
language_plain [] l m e = refl
language_plain (p ∷ ps) l m e =
    let f = first_step language_after l m p ps e in
    let never : is_single p ≡ true → ⊥ = λ g. let h : Some f.0 ≡ None = sym f.1 ∙ language_closed l p g in cc in
    or_from (is_single p) (list_any is_single ps) (false_from_ne_true (is_single p) never) (language_plain ps f.0 m f.2)

after_single : (taken : List Text) (id : LanguageId) (u : Text) (rest : List Text) → Behind taken id (u ∷ rest) → is_unicode u ≡ true → list_any is_single taken ≡ true
after_single taken id u rest b e =
    subst (λ l. list_any is_single l ≡ true) b.parts
    (list_any-append is_single b.front (u ∷ rest) ∙ or_right (list_any is_single b.front) (list_any is_single (u ∷ rest)) (or_left (is_single u) (list_any is_single rest) (unicode_single u e)))

name_within : (taken : List Text) (place : Option Text) → list_any is_single taken ≡ true → single_name taken place ≡ InvalidExtension
name_within [] place e = cc
name_within (p ∷ ps) place e = ap (λ b. if b || begins_extension place then InvalidExtension else InvalidSubtag) e

name_outside : (taken : List Text) (id : LanguageId) (place : Option Text) → MeansLanguage taken id → single_name taken place ≡ (if begins_extension place then InvalidExtension else InvalidSubtag)
name_outside [] id place a = let f = a.parts in cc
name_outside (p ∷ ps) id place a = ap (λ b. if b || begins_extension place then InvalidExtension else InvalidSubtag) (language_plain (p ∷ ps) None (Some id) (language_runs (p ∷ ps) id a))

pub single_named : (taken : List Text) (s : SingleStage) (place : Option Text) → run single_after (Some (InLanguage None)) taken ≡ Some s → single_name taken place ≡ single_fault s place
single_named taken s place e = by_stage s (stands taken s e)
  where
    by_stage : (s : SingleStage) → Stands taken s → single_name taken place ≡ single_fault s place
    by_stage (InLanguage None) s = ap (λ l. single_name l place) s.0
    by_stage (InLanguage (Some id)) s = name_outside taken id place s.0
    by_stage (AfterUnicode id) s = name_within taken place (after_single taken id s.0 [] s.1 s.2)
    by_stage (AfterKey id k) s = name_within taken place (after_single taken id s.0 (s.1 ∷ []) s.2 s.3)
    by_stage (AfterValue id k v) s = name_within taken place (after_single taken id s.0 (s.1 ∷ s.2 ∷ []) s.3 s.4)

pub single_answered : (ps : List Text) → IsAccepted MeansSingle ps ⊎ ((e : ParseError) × HasSingleFault ps e)
single_answered ps = by_answer (answered single_reader ps)
  where
    by_answer : IsAccepted MeansSingle ps ⊎ Stop single_reader ps → IsAccepted MeansSingle ps ⊎ ((e : ParseError) × HasSingleFault ps e)
    by_answer (inl a) = inl a
    by_answer (inr s) = inr (single_fault s.stage (first_piece s.rest), record { front = s.front; rest = s.rest; stops = s.stops; named = single_named s.front s.stage (first_piece s.rest) s.reached })
