-- The stages of a language part with at most one variant are a right reader, and a stage that is stuck names the fault.
use Rattle.std.proofs.Common.{◌≡◌, Bool, true, false, List, [], ◌∷◌, ◌++◌, Option, None, Some, codes, sym, refl, ap, ◌∙◌, subst}
use Rattle.std.specs.Prelude.{if◌then◌else◌}
use Rattle.std.specs.Ordering.{match_ordering}
use Rattle.std.specs.declared.cmp.Ordering.{Ordering}
use Rattle.std.specs.declared.cmp.Ordering.TheVariants.{Less, Equal, Greater}
use Rattle.std.proofs.lemmas.Bool.{both_ways}
use Rattle.icu_locale_core_grammar.specs.declared.error.ParseError.{ParseError}
use Rattle.icu_locale_core_grammar.specs.declared.error.ParseError.TheVariants.{InvalidLanguage, InvalidSubtag}
use Rattle.icu_locale_core_grammar.specs.Subtags.{Text, lower}
use Rattle.icu_locale_core_grammar.specs.Collections.{text_cmp, insert_text}
use Rattle.icu_locale_core_grammar.specs.LanguagePart.{LanguageId, MeansLanguage}
use Rattle.icu_locale_core_grammar.specs.FaultyPiece.{IsNamed, HasFault}
use Rattle.icu_locale_core_grammar.specs.SingleVariant.{has_short}
use Rattle.icu_locale_core_grammar.specs.Stepping.{run, CanEnd, IsReader}
use Rattle.icu_locale_core_grammar.specs.TagStages.{only_language, fits_script, fits_region, fits_variant, with_script, with_region, with_variant, with_piece, language_after, language_ends, language_fault}
use Rattle.icu_locale_core_grammar.proofs.ListLemmas.{mapped_some}
use Rattle.icu_locale_core_grammar.proofs.FaultNames.{IsNamedByCase, by_case, from_case}
use Rattle.icu_locale_core_grammar.proofs.Runs.{first_step, stops_at_piece, stops_at_end}
use Rattle.icu_locale_core_grammar.proofs.LanguageReader.{language_reader}
use Rattle.icu_locale_core_grammar.proofs.LanguageFaults.{language_named}
use Rattle.icu_locale_core_grammar.proofs.SingleReader.{IsShort, step_there}
use Rattle.icu_locale_core_grammar.proofs.CallerLemmas.{read_whole, none_left}
use Rattle.icu_locale_core_langid.proofs.SteppingLemmas.{TookBy}
use Rattle.icu_locale_core_langid.specs.OneVariant.{MeansOneVariant, kept_one, one_variant_after}

-- ---- a second variant does not go again

long_stays : (t : Text) (us : List Text) → has_short us ≡ false → has_short (insert_text t us) ≡ false
long_stays t [] e = cc
long_stays t (u ∷ []) e = cc
long_stays t (u ∷ w ∷ ws) e = by_orders (text_cmp t u) (text_cmp t w)
  where
    by_orders : (o r : Ordering) → has_short (match_ordering o (t ∷ u ∷ w ∷ ws) (u ∷ w ∷ ws) (u ∷ match_ordering r (t ∷ w ∷ ws) (w ∷ ws) (w ∷ insert_text t ws))) ≡ false
    by_orders Less r = refl
    by_orders Equal r = refl
    by_orders Greater Less = refl
    by_orders Greater Equal = refl
    by_orders Greater Greater = refl

piece_long : (id : LanguageId) (p : Text) (t : LanguageId) → with_piece id p ≡ Some t → has_short id.variants ≡ false → has_short t.variants ≡ false
unfolding with_piece
piece_long id p t e long = by_tests (fits_script id p) (fits_region id p) (fits_variant id p) e
  where
    by_tests : (a b c : Bool) → (if a then Some (with_script id p) else (if b then Some (with_region id p) else (if c then Some (with_variant id p) else None))) ≡ Some t → has_short t.variants ≡ false
    by_tests true b c q = let same : with_script id p ≡ t = cc in subst (λ i. has_short i.variants ≡ false) same long
    by_tests false true c q = let same : with_region id p ≡ t = cc in subst (λ i. has_short i.variants ≡ false) same long
    by_tests false false true q = let same : with_variant id p ≡ t = cc in subst (λ i. has_short i.variants ≡ false) same (long_stays (lower p) id.variants long)
    by_tests false false false q = cc

before_short : (l m : Option LanguageId) (p : Text) → language_after l p ≡ Some m → IsShort m → IsShort l
before_short None m p e short = tt
before_short (Some id) m p e short =
    let f = mapped_some Some (with_piece id p) m e in
    by (has_short id.variants) refl f.0 f.1 (subst IsShort (sym f.2) short)
  where
    by : (b : Bool) → has_short id.variants ≡ b → (t : LanguageId) → with_piece id p ≡ Some t → has_short t.variants ≡ true → has_short id.variants ≡ true
    by true is t q s = is
    by false is t q s = absurd (both_ways (has_short t.variants) (piece_long id p t q is) s)

-- ---- steps with and without the test

kept : (m : Option LanguageId) (id : LanguageId) → m ≡ Some id → IsShort m → kept_one (Some m) ≡ Some m
kept None id e short = cc
kept (Some i) id e short = ap (λ b. if b then Some (Some i) else None) short

was_kept : (o : Option (Option LanguageId)) (m : Option LanguageId) → kept_one o ≡ Some m → (o ≡ Some m) × IsShort m
was_kept None m e = cc
was_kept (Some None) m e = cc
was_kept (Some (Some id)) m e = by (has_short id.variants) refl e
  where
    by : (b : Bool) → has_short id.variants ≡ b → (if b then Some (Some id) else None) ≡ Some m → (Some (Some id) ≡ Some m) × IsShort m
    by true is q = let same : Some id ≡ m = cc in (q, subst IsShort same is)
    by false is q = cc

run_kept : (ps : List Text) (l m : Option LanguageId) → run language_after (Some l) ps ≡ Some m → IsShort m → IsShort l × (run one_variant_after (Some l) ps ≡ Some m)
run_kept [] l m e short = let same : l ≡ m = cc in (subst IsShort (sym same) short, e)
run_kept (p ∷ ps) l m e short =
    let f = first_step language_after l m p ps e in
    let r = run_kept ps f.0 m f.2 short in
    let there = step_there l p f.0 f.1 in
    (before_short l f.0 p f.1 r.0, ap (λ o. run one_variant_after o ps) (ap kept_one f.1 ∙ kept f.0 there.0 there.1 r.0) ∙ r.1)

pub run_left : (ps : List Text) (l m : Option LanguageId) → run one_variant_after (Some l) ps ≡ Some m → IsShort l → (run language_after (Some l) ps ≡ Some m) × IsShort m
run_left [] l m e short = let same : l ≡ m = cc in (e, subst IsShort same short)
run_left (p ∷ ps) l m e short =
    let f = first_step one_variant_after l m p ps e in
    let k = was_kept (language_after l p) f.0 f.1 in
    let r = run_left ps f.0 m f.2 k.1 in
    (ap (λ o. run language_after o ps) k.0 ∙ r.0, r.1)

-- ---- a right reader

goes_on : CanEnd one_variant_after language_ends
goes_on None = (codes "und" ∷ [], Some (only_language (codes "und")), only_language (codes "und"), refl, refl)
goes_on (Some id) = ([], Some id, id, refl, refl)

found : (ps : List Text) (s : Option LanguageId) (id : LanguageId) → run one_variant_after (Some None) ps ≡ Some s → language_ends s ≡ Some id → MeansOneVariant ps id
found ps s id e f =
    let r = run_left ps None s e tt in
    record { means = language_reader.found ps s id r.0 f; short = subst IsShort f r.1 }

only : (ps : List Text) (id : LanguageId) → MeansOneVariant ps id → (s : Option LanguageId) × (run one_variant_after (Some None) ps ≡ Some s) × (language_ends s ≡ Some id)
only ps id a =
    let r = language_reader.only ps id a.means in
    (r.0, (run_kept ps None r.0 r.1 (subst IsShort (sym r.2) a.short)).1, r.2)

pub one_variant_reader : IsReader one_variant_after None language_ends MeansOneVariant
one_variant_reader = record { found = found; only = only; goes_on = goes_on }

-- ---- faults

named : (taken : List Text) (s : Option LanguageId) (place : Option Text) → run one_variant_after (Some None) taken ≡ Some s → IsNamed MeansOneVariant (language_fault s) taken place
named taken s place e = renamed s (by_case MeansLanguage (language_fault s) taken place (language_named taken s place (run_left taken None s e tt).0))
  where
    renamed : (s : Option LanguageId) → IsNamedByCase MeansLanguage (language_fault s) taken place → IsNamed MeansOneVariant (language_fault s) taken place
    renamed None a = from_case MeansOneVariant InvalidLanguage taken place a
    renamed (Some id) a = from_case MeansOneVariant InvalidSubtag taken place a

pub one_variant_refused : (ps taken rest : List Text) (s : Option LanguageId) (p : Text) → ps ≡ taken ++ p ∷ rest → run one_variant_after (Some None) taken ≡ Some s → one_variant_after s p ≡ None
    → HasFault MeansOneVariant ps (language_fault s)
one_variant_refused ps taken rest s p e reached none =
    subst (λ l. HasFault MeansOneVariant l (language_fault s)) (sym e)
    (record { front = taken; rest = p ∷ rest; stops = stops_at_piece one_variant_reader taken s p rest reached none; named = named taken s (Some p) reached })

pub one_variant_cut : (ps taken : List Text) → ps ≡ taken → run one_variant_after (Some None) taken ≡ Some None → HasFault MeansOneVariant ps (language_fault None)
one_variant_cut ps taken e reached =
    subst (λ l. HasFault MeansOneVariant l (language_fault None)) (sym e)
    (record { front = taken; rest = []; stops = stops_at_end one_variant_reader taken None reached refl; named = named taken None None reached })

-- ---- what a loop over the pieces shows where it stops

pub loop_refused : (ps left rest : List Text) (s : Option LanguageId) (p : Text) (e : ParseError) → TookBy one_variant_after ps s left → left ≡ p ∷ rest → None ≡ one_variant_after s p → e ≡ language_fault s
    → HasFault MeansOneVariant ps e
loop_refused ps left rest s p e took first none fault =
    subst (HasFault MeansOneVariant ps) (sym fault)
    (one_variant_refused ps took.0 rest s p (took.1 ∙ ap (λ l. took.0 ++ l) first) took.2 (sym none))

-- no piece is left
reached_end : (ps left : List Text) (s t : Option LanguageId) → TookBy one_variant_after ps s left → left ≡ [] → s ≡ t → TookBy one_variant_after ps t []
reached_end ps left s t took past is = (took.0, took.1 ∙ ap (λ l. took.0 ++ l) past, took.2 ∙ ap Some is)

pub loop_read : (ps left : List Text) (s : Option LanguageId) (id : LanguageId) → TookBy one_variant_after ps s left → left ≡ [] → s ≡ Some id → MeansOneVariant ps id
loop_read ps left s id took past is =
    let t = reached_end ps left s (Some id) took past is in
    read_whole one_variant_reader ps t.0 (Some id) id (none_left ps t.0 t.1) t.2 refl

pub loop_cut : (ps left : List Text) (s : Option LanguageId) → TookBy one_variant_after ps s left → left ≡ [] → s ≡ None → HasFault MeansOneVariant ps InvalidLanguage
loop_cut ps left s took past is =
    let t = reached_end ps left s None took past is in
    one_variant_cut ps t.0 (none_left ps t.0 t.1) t.2
