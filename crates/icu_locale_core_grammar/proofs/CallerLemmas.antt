-- For the crates above: what a reading loop shows at each step, where a piece is refused, and at the end.
use Rattle.std.proofs.Common.{◌≡◌, List, [], ◌∷◌, ◌++◌, Option, None, Some, sym, refl, ap, ◌∙◌, subst, append-nil}
use Rattle.icu_locale_core_grammar.specs.Subtags.{Text}
use Rattle.icu_locale_core_grammar.specs.LanguagePart.{LanguageId, MeansLanguage}
use Rattle.icu_locale_core_grammar.specs.Meaning.{MeansTag}
use Rattle.icu_locale_core_grammar.specs.FaultyPiece.{HasFault}
use Rattle.icu_locale_core_grammar.specs.Stepping.{run, IsReader}
use Rattle.icu_locale_core_grammar.specs.SingleVariant.{HasSingleFault, SingleStage, InLanguage, single_after, single_ends, single_fault}
use Rattle.icu_locale_core_grammar.specs.TagStages.{language_after, language_fault, TagStage, tag_start, tag_after, tag_ends, tag_fault}
use Rattle.icu_locale_core_grammar.proofs.Runs.{run_joined, stops_at_piece, stops_at_end, stuck_unmeant, unended_unmeant}
use Rattle.icu_locale_core_grammar.proofs.LanguageReader.{language_reader}
use Rattle.icu_locale_core_grammar.proofs.LanguageFaults.{language_named}
use Rattle.icu_locale_core_grammar.proofs.SingleReader.{single_reader, single_named}
use Rattle.icu_locale_core_grammar.proofs.TagReader.{tag_reader, stages_named}

-- ---- over any steps

-- one more piece was taken
pub run_more : {S : Type 0} (step : S → Text → Option S) (start s t : S) (taken : List Text) (p : Text) → run step (Some start) taken ≡ Some s → step s p ≡ Some t → run step (Some start) (taken ++ p ∷ []) ≡ Some t
run_more step start s t taken p reached e = run_joined step start s (Some t) taken (p ∷ []) reached (ap (λ o. run step o []) e)

-- the pieces of a whole list are those taken and those left
pub none_left : (ps taken : List Text) → ps ≡ taken ++ [] → ps ≡ taken
none_left ps taken e = e ∙ append-nil taken

module _ {S M : Type 0} {step : S → Text → Option S} {start : S} {ends : S → Option M} {Means : List Text → M → Type 0} (right : IsReader step start ends Means) where
  -- all pieces were taken, and the stage is an end
  pub read_whole : (ps taken : List Text) (s : S) (m : M) → ps ≡ taken → run step (Some start) taken ≡ Some s → ends s ≡ Some m → Means ps m
  read_whole ps taken s m e reached f = subst (λ l. Means l m) (sym e) (right.found taken s m reached f)

  -- a piece is refused: the list means nothing
  pub refused_unmeant : (ps taken rest : List Text) (s : S) (p : Text) → ps ≡ taken ++ p ∷ rest → run step (Some start) taken ≡ Some s → step s p ≡ None → (m : M) → Means ps m → ⊥
  refused_unmeant ps taken rest s p e reached none m a = stuck_unmeant right taken s p rest m reached none (subst (λ l. Means l m) e a)

  -- the stage is no end: the list means nothing
  pub cut_unmeant : (ps taken : List Text) (s : S) → ps ≡ taken → run step (Some start) taken ≡ Some s → ends s ≡ None → (m : M) → Means ps m → ⊥
  cut_unmeant ps taken s e reached none m a = unended_unmeant right taken s m reached none (subst (λ l. Means l m) e a)

-- ---- faults of whole tags

pub tag_refused : (ps taken rest : List Text) (s : TagStage) (p : Text) → ps ≡ taken ++ p ∷ rest → run tag_after (Some tag_start) taken ≡ Some s → tag_after s p ≡ None → HasFault MeansTag ps (tag_fault s (Some p))
tag_refused ps taken rest s p e reached none =
    subst (λ l. HasFault MeansTag l (tag_fault s (Some p))) (sym e)
    (record { front = taken; rest = p ∷ rest; stops = stops_at_piece tag_reader taken s p rest reached none; named = stages_named taken s (Some p) reached none })

pub tag_cut : (ps taken : List Text) (s : TagStage) → ps ≡ taken → run tag_after (Some tag_start) taken ≡ Some s → tag_ends s ≡ None → HasFault MeansTag ps (tag_fault s None)
tag_cut ps taken s e reached none =
    subst (λ l. HasFault MeansTag l (tag_fault s None)) (sym e)
    (record { front = taken; rest = []; stops = stops_at_end tag_reader taken s reached none; named = stages_named taken s None reached none })

-- ---- faults of language identifiers

pub language_refused : (ps taken rest : List Text) (s : Option LanguageId) (p : Text) → ps ≡ taken ++ p ∷ rest → run language_after (Some None) taken ≡ Some s → language_after s p ≡ None → HasFault MeansLanguage ps (language_fault s)
language_refused ps taken rest s p e reached none =
    subst (λ l. HasFault MeansLanguage l (language_fault s)) (sym e)
    (record { front = taken; rest = p ∷ rest; stops = stops_at_piece language_reader taken s p rest reached none; named = language_named taken s (Some p) reached })

pub language_cut : (ps taken : List Text) → ps ≡ taken → run language_after (Some None) taken ≡ Some None → HasFault MeansLanguage ps (language_fault None)
language_cut ps taken e reached =
    subst (λ l. HasFault MeansLanguage l (language_fault None)) (sym e)
    (record { front = taken; rest = []; stops = stops_at_end language_reader taken None reached refl; named = language_named taken None None reached })

-- ---- faults of tags of one variant and one keyword

pub single_refused : (ps taken rest : List Text) (s : SingleStage) (p : Text) → ps ≡ taken ++ p ∷ rest → run single_after (Some (InLanguage None)) taken ≡ Some s → single_after s p ≡ None → HasSingleFault ps (single_fault s (Some p))
single_refused ps taken rest s p e reached none =
    subst (λ l. HasSingleFault l (single_fault s (Some p))) (sym e)
    (record { front = taken; rest = p ∷ rest; stops = stops_at_piece single_reader taken s p rest reached none; named = single_named taken s (Some p) reached })

pub single_cut : (ps taken : List Text) (s : SingleStage) → ps ≡ taken → run single_after (Some (InLanguage None)) taken ≡ Some s → single_ends s ≡ None → HasSingleFault ps (single_fault s None)
single_cut ps taken s e reached none =
    subst (λ l. HasSingleFault l (single_fault s None)) (sym e)
    (record { front = taken; rest = []; stops = stops_at_end single_reader taken s reached none; named = single_named taken s None reached })
