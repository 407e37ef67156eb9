-- Language identifiers: each list of pieces has a meaning or a fault, and a front that is a language part or the fault.
use Rattle.std.proofs.Common.{◌≡◌, ◌≢◌, Bool, true, false, List, [], ◌∷◌, ◌++◌, Option, None, Some, refl, ap, ◌∙◌, subst, append_assoc, ◌⊎◌, inl, inr}
use Rattle.std.specs.Prelude.{if◌then◌else◌}
use Rattle.std.specs.List.{list_any}
use Rattle.icu_locale_core_grammar.specs.declared.error.ParseError.{ParseError}
use Rattle.icu_locale_core_grammar.specs.declared.error.ParseError.TheVariants.{InvalidLanguage}
use Rattle.icu_locale_core_grammar.specs.Subtags.{Text, is_single, is_language}
use Rattle.icu_locale_core_grammar.specs.LanguagePart.{LanguageId, MeansLanguage, MeansInner}
use Rattle.icu_locale_core_grammar.specs.FaultyPiece.{first_piece, IsAccepted, IsNamed, HasFault}
use Rattle.icu_locale_core_grammar.specs.Stepping.{run}
use Rattle.icu_locale_core_grammar.specs.TagStages.{only_language, language_after, language_fault}
use Rattle.icu_locale_core_grammar.specs.PartialReading.{ReadsFront}
use Rattle.icu_locale_core_grammar.proofs.FaultNames.{IsNamedByCase, from_case}
use Rattle.icu_locale_core_grammar.proofs.Runs.{run_joined, Stop, answered, stops_at_piece, stops_at_end}
use Rattle.icu_locale_core_grammar.proofs.LanguageReader.{language_reader, language_stands}
use Rattle.icu_locale_core_grammar.proofs.SingleReader.{language_plain, step_there}
use Rattle.icu_locale_core_grammar.proofs.PartialReadingLemmas.{front_read}

pub language_named : (taken : List Text) (s : Option LanguageId) (place : Option Text) → run language_after (Some None) taken ≡ Some s → IsNamed MeansLanguage (language_fault s) taken place
language_named taken s place e = from_case MeansLanguage (language_fault s) taken place (by_stage s (language_stands taken s e) (language_plain taken None s e))
  where
    filled : (ps : List Text) (id : LanguageId) → MeansLanguage ps id → ps ≢ []
    filled [] id a = let f = a.parts in cc
    filled (p ∷ ps) id a = λ f. cc

    by_stage : (s : Option LanguageId) → MeansInner taken s → list_any is_single taken ≡ false → IsNamedByCase MeansLanguage (language_fault s) taken place
    by_stage None a plain = a
    by_stage (Some id) a plain = (filled taken id a, plain)

pub language_answered : (ps : List Text) → IsAccepted MeansLanguage ps ⊎ ((e : ParseError) × HasFault MeansLanguage ps e)
language_answered ps = by_answer (answered language_reader ps)
  where
    by_answer : IsAccepted MeansLanguage ps ⊎ Stop language_reader ps → IsAccepted MeansLanguage ps ⊎ ((e : ParseError) × HasFault MeansLanguage ps e)
    by_answer (inl a) = inl a
    by_answer (inr s) = inr (language_fault s.stage, record { front = s.front; rest = s.rest; stops = s.stops; named = language_named s.front s.stage (first_piece s.rest) s.reached })

-- ---- a front that is a language part

abbrev HasFront : List Text → Type 0
HasFront ps = (id : LanguageId) × (rest : List Text) × ReadsFront MeansLanguage ps id rest

one_more : (taken ps : List Text) (id : LanguageId) (p : Text) (o : Option (Option LanguageId)) → run language_after (Some None) taken ≡ Some (Some id) → language_after (Some id) p ≡ o
    → ((t : LanguageId) → run language_after (Some None) (taken ++ p ∷ []) ≡ Some (Some t) → HasFront ((taken ++ p ∷ []) ++ ps)) → HasFront (taken ++ p ∷ ps)
one_more taken ps id p None e f onward = (id, p ∷ ps, front_read language_reader taken (p ∷ ps) (Some id) id e refl f)
one_more taken ps id p (Some m) e f onward =
    let g = step_there (Some id) p m f in
    subst HasFront (append_assoc taken (p ∷ []) ps) (onward g.0 (run_joined language_after None (Some id) (Some (Some g.0)) taken (p ∷ []) e (ap (λ o. run language_after o []) (f ∙ ap Some g.1))))

front_from : (ps taken : List Text) (id : LanguageId) → run language_after (Some None) taken ≡ Some (Some id) → HasFront (taken ++ ps)
front_from [] taken id e = (id, [], front_read language_reader taken [] (Some id) id e refl tt)
front_from (p ∷ ps) taken id e = one_more taken ps id p (language_after (Some id) p) e refl (front_from ps (taken ++ p ∷ []))

pub language_front : (ps : List Text) → HasFront ps ⊎ HasFault MeansLanguage ps InvalidLanguage
language_front [] = inr (record { front = []; rest = []; stops = stops_at_end language_reader [] None refl refl; named = from_case MeansLanguage InvalidLanguage [] None refl })
language_front (p ∷ ps) = by_test (is_language p) refl
  where
    by_test : (b : Bool) → is_language p ≡ b → HasFront (p ∷ ps) ⊎ HasFault MeansLanguage (p ∷ ps) InvalidLanguage
    by_test true e = inl (front_from ps (p ∷ []) (only_language p) (ap (λ b. run language_after (if b then Some (Some (only_language p)) else None) []) e))
    by_test false e = inr (record { front = []; rest = p ∷ ps; stops = stops_at_piece language_reader [] None p ps refl (ap (λ b. if b then Some (Some (only_language p)) else None) e); named = from_case MeansLanguage InvalidLanguage [] (Some p) refl })
