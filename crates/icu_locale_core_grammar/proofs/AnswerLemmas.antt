-- The computed answer to a text is its meaning or its fault, so a row that computes is a row of the definitions.
use Rattle.std.proofs.Common.{◌≡◌, List, [], ◌∷◌, ◌++◌, Option, None, Some, Result, Ok, Err, MatchResult, sym, refl, ap, subst, append_assoc, append-nil}
use Rattle.icu_locale_core_grammar.specs.declared.error.ParseError.{ParseError}
use Rattle.icu_locale_core_grammar.specs.Subtags.{Text}
use Rattle.icu_locale_core_grammar.specs.Pieces.{pieces}
use Rattle.icu_locale_core_grammar.specs.LanguagePart.{MeansLanguage}
use Rattle.icu_locale_core_grammar.specs.Meaning.{TagMeaning, MeansTag}
use Rattle.icu_locale_core_grammar.specs.NormalText.{language_text, normal_text}
use Rattle.icu_locale_core_grammar.specs.FaultyPiece.{first_piece, HasFault}
use Rattle.icu_locale_core_grammar.specs.Stepping.{run, IsReader}
use Rattle.icu_locale_core_grammar.specs.SingleVariant.{MeansSingle, HasSingleFault, InLanguage, single_after, single_ends, single_fault}
use Rattle.icu_locale_core_grammar.specs.TagStages.{language_after, language_ends, language_fault, tag_start, tag_after, tag_ends, tag_fault}
use Rattle.icu_locale_core_grammar.specs.KnownRows.{end_answer, answer_from, shown_by, tag_answer, answer_to, language_answer, single_text, single_answer, language_first_text, language_first_answer, region_first_text, region_first_answer}
use Rattle.icu_locale_core_grammar.specs.TagLaws.{IsShown, IsPrinted, IsRefused, AnswersAreRight}
use Rattle.icu_locale_core_grammar.proofs.Runs.{run_joined, stops_at_piece, stops_at_end, Stop}
use Rattle.icu_locale_core_grammar.proofs.TagReader.{tag_reader, tag_named}
use Rattle.icu_locale_core_grammar.proofs.LanguageReader.{language_reader}
use Rattle.icu_locale_core_grammar.proofs.LanguageFaults.{language_named}
use Rattle.icu_locale_core_grammar.proofs.SingleReader.{single_reader, single_named}

module _ {S M : Type 0} (step : S → Text → Option S) (start : S) (ends : S → Option M) (fault : S → Option Text → ParseError) (Means : List Text → M → Type 0) (Faulty : List Text → ParseError → Type 0)
    (right : IsReader step start ends Means) (named : (ps : List Text) (s : Stop right ps) → Faulty ps (fault s.stage (first_piece s.rest))) where
  abbrev IsAnswer : List Text → Result M ParseError → Type 0
  IsAnswer ps r = MatchResult r (Means ps) (Faulty ps)

  right_end : (taken : List Text) (s : S) (o : Option M) → run step (Some start) taken ≡ Some s → ends s ≡ o → IsAnswer taken (end_answer step ends fault s o)
  right_end taken s None r e = named taken (record { front = taken; rest = []; stage = s; reached = r; stuck = e; stops = stops_at_end right taken s r e })
  right_end taken s (Some m) r e = right.found taken s m r e

  right_piece : (taken ps : List Text) (s : S) (p : Text) (o : Option S) → run step (Some start) taken ≡ Some s → step s p ≡ o
      → ((t : S) → run step (Some start) (taken ++ p ∷ []) ≡ Some t → IsAnswer ((taken ++ p ∷ []) ++ ps) (answer_from step ends fault t ps))
      → IsAnswer (taken ++ p ∷ ps) (elim o [ None ↦ Err (fault s (Some p)) | Some t ↦ answer_from step ends fault t ps ])
  right_piece taken ps s p None r e onward = named (taken ++ p ∷ ps) (record { front = taken; rest = p ∷ ps; stage = s; reached = r; stuck = e; stops = stops_at_piece right taken s p ps r e })
  right_piece taken ps s p (Some t) r e onward =
      subst (λ l. IsAnswer l (answer_from step ends fault t ps)) (append_assoc taken (p ∷ []) ps) (onward t (run_joined step start s (Some t) taken (p ∷ []) r (ap (λ o. run step o []) e)))

  right_from : (ps taken : List Text) (s : S) → run step (Some start) taken ≡ Some s → IsAnswer (taken ++ ps) (answer_from step ends fault s ps)
  right_from [] taken s r = subst (λ l. IsAnswer l (end_answer step ends fault s (ends s))) (sym (append-nil taken)) (right_end taken s (ends s) r refl)
  right_from (p ∷ ps) taken s r = right_piece taken ps s p (step s p) r refl (right_from ps (taken ++ p ∷ []))

  module _ (show : M → Text) where
    shown_right : (ps : List Text) (r : Result M ParseError) → IsAnswer ps r → MatchResult (shown_by show r) (λ shown. (m : M) × Means ps m × (show m ≡ shown)) (Faulty ps)
    shown_right ps (Ok m) a = (m, a, refl)
    shown_right ps (Err e) a = a

    pub answer_is_right : (text : Text) → MatchResult (shown_by show (answer_from step ends fault start (pieces text))) (IsShown Means show text) (Faulty (pieces text))
    answer_is_right text = shown_right (pieces text) (answer_from step ends fault start (pieces text)) (right_from (pieces text) [] start refl)

  pub meaning_right : (text : Text) → IsAnswer (pieces text) (answer_from step ends fault start (pieces text))
  meaning_right text = right_from (pieces text) [] start refl

tag_faulty : (ps : List Text) (s : Stop tag_reader ps) → HasFault MeansTag ps (tag_fault s.stage (first_piece s.rest))
tag_faulty ps s = record { front = s.front; rest = s.rest; stops = s.stops; named = tag_named s.front s.stage (first_piece s.rest) s.reached s.stuck }

language_faulty : (ps : List Text) (s : Stop language_reader ps) → HasFault MeansLanguage ps (language_fault s.stage)
language_faulty ps s = record { front = s.front; rest = s.rest; stops = s.stops; named = language_named s.front s.stage (first_piece s.rest) s.reached }

single_faulty : (ps : List Text) (s : Stop single_reader ps) → HasSingleFault ps (single_fault s.stage (first_piece s.rest))
single_faulty ps s = record { front = s.front; rest = s.rest; stops = s.stops; named = single_named s.front s.stage (first_piece s.rest) s.reached }

tag_shown : (show : TagMeaning → Text) (text : Text) → MatchResult (shown_by show (answer_from tag_after tag_ends tag_fault tag_start (pieces text))) (IsShown MeansTag show text) (IsRefused text)
tag_shown show text = answer_is_right tag_after tag_start tag_ends tag_fault MeansTag (HasFault MeansTag) tag_reader tag_faulty show text

pub answer_right : AnswersAreRight
answer_right text = tag_shown normal_text text

-- ---- rows

-- a row of an answer that is right
row : (P : Text → Type 0) (Q : ParseError → Type 0) (r s : Result Text ParseError) → MatchResult r P Q → r ≡ s → MatchResult s P Q
row P Q r s right e = subst (λ x. MatchResult x P Q) e right

pub meaning_row : (text : Text) (m : TagMeaning) → tag_answer text ≡ Ok m → MeansTag (pieces text) m
meaning_row text m e =
    subst (λ r. MatchResult r (MeansTag (pieces text)) (HasFault MeansTag (pieces text))) e
    (meaning_right tag_after tag_start tag_ends tag_fault MeansTag (HasFault MeansTag) tag_reader tag_faulty text)

pub printed_row : (text printed : Text) → answer_to text ≡ Ok printed → IsPrinted text printed
printed_row text printed e = row (IsPrinted text) (IsRefused text) (answer_to text) (Ok printed) (answer_right text) e

pub refused_row : (text : Text) (fault : ParseError) → answer_to text ≡ Err fault → IsRefused text fault
refused_row text fault e = row (IsPrinted text) (IsRefused text) (answer_to text) (Err fault) (answer_right text) e

language_right : (text : Text) → MatchResult (language_answer text) (IsShown MeansLanguage language_text text) (HasFault MeansLanguage (pieces text))
language_right text = answer_is_right language_after None language_ends (λ s place. language_fault s) MeansLanguage (HasFault MeansLanguage) language_reader language_faulty language_text text

pub language_row : (text shown : Text) → language_answer text ≡ Ok shown → IsShown MeansLanguage language_text text shown
language_row text shown e = row (IsShown MeansLanguage language_text text) (HasFault MeansLanguage (pieces text)) (language_answer text) (Ok shown) (language_right text) e

pub language_refused_row : (text : Text) (fault : ParseError) → language_answer text ≡ Err fault → HasFault MeansLanguage (pieces text) fault
language_refused_row text fault e = row (IsShown MeansLanguage language_text text) (HasFault MeansLanguage (pieces text)) (language_answer text) (Err fault) (language_right text) e

single_right : (text : Text) → MatchResult (single_answer text) (IsShown MeansSingle single_text text) (HasSingleFault (pieces text))
single_right text = answer_is_right single_after (InLanguage None) single_ends single_fault MeansSingle HasSingleFault single_reader single_faulty single_text text

pub single_row : (text shown : Text) → single_answer text ≡ Ok shown → IsShown MeansSingle single_text text shown
single_row text shown e = row (IsShown MeansSingle single_text text) (HasSingleFault (pieces text)) (single_answer text) (Ok shown) (single_right text) e

pub single_refused_row : (text : Text) (fault : ParseError) → single_answer text ≡ Err fault → HasSingleFault (pieces text) fault
single_refused_row text fault e = row (IsShown MeansSingle single_text text) (HasSingleFault (pieces text)) (single_answer text) (Err fault) (single_right text) e

pub language_first_row : (text shown : Text) → language_first_answer text ≡ Ok shown → IsShown MeansTag language_first_text text shown
language_first_row text shown e = row (IsShown MeansTag language_first_text text) (IsRefused text) (language_first_answer text) (Ok shown) (tag_shown language_first_text text) e

pub region_first_row : (text shown : Text) → region_first_answer text ≡ Ok shown → IsShown MeansTag region_first_text text shown
region_first_row text shown e = row (IsShown MeansTag region_first_text text) (IsRefused text) (region_first_answer text) (Ok shown) (tag_shown region_first_text text) e
