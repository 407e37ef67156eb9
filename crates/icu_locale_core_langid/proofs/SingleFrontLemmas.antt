-- The longest front that is a language part of at most one variant: what a loop that stops has read, and what a rest shows.
use Rattle.std.proofs.Common.{◌≡◌, Bool, true, false, List, [], ◌∷◌, Option, None, Some, Result, Ok, Err, MatchResult, option_map, sym, refl, ap, ◌∙◌, subst, append-nil}
use Rattle.icu_locale_core_grammar.specs.declared.error.ParseError.{ParseError}
use Rattle.icu_locale_core_grammar.specs.declared.error.ParseError.TheVariants.{InvalidLanguage, InvalidSubtag}
use Rattle.icu_locale_core_grammar.specs.Subtags.{Text}
use Rattle.icu_locale_core_grammar.specs.LanguagePart.{LanguageId, MeansLanguage}
use Rattle.icu_locale_core_grammar.specs.FaultyPiece.{HasFault}
use Rattle.icu_locale_core_grammar.specs.PartialReading.{ReadsFront}
use Rattle.icu_locale_core_grammar.specs.TagStages.{has_none}
use Rattle.icu_locale_core_grammar.proofs.FaultNames.{by_case, from_case}
use Rattle.icu_locale_core_grammar.proofs.LanguageReader.{language_runs}
use Rattle.icu_locale_core_grammar.proofs.LanguageFaults.{language_named}
use Rattle.icu_locale_core_grammar.proofs.PartialReadingLemmas.{IsRefusedFirst, front_read}
use Rattle.icu_locale_core_grammar.proofs.CallerLemmas.{none_left}
use Rattle.icu_locale_core_langid.specs.OneVariant.{MeansOneVariant, parts_id, one_variant_after}
use Rattle.icu_locale_core_langid.proofs.SteppingLemmas.{TookBy}
use Rattle.icu_locale_core_langid.proofs.OneVariantReader.{one_variant_reader, one_variant_refused, one_variant_cut}

-- ---- where the loop stops

-- the steps took all but `rest`, and stopped there at the stage s
pub record StopsWith (ps : List Text) (s : Option LanguageId) (rest : List Text) : Type 0 where
  pub took : TookBy one_variant_after ps s rest
  pub stuck : IsRefusedFirst one_variant_after s rest

pub stops_at_piece : (ps left more : List Text) (s : Option LanguageId) (p : Text) → TookBy one_variant_after ps s left → left ≡ p ∷ more → one_variant_after s p ≡ None → StopsWith ps s left
stops_at_piece ps left more s p took first none = subst (StopsWith ps s) (sym first) (record { took = subst (TookBy one_variant_after ps s) first took; stuck = none })

pub stops_at_end : (ps left : List Text) (s : Option LanguageId) → TookBy one_variant_after ps s left → left ≡ [] → StopsWith ps s left
stops_at_end ps left s took past = subst (StopsWith ps s) (sym past) (record { took = subst (TookBy one_variant_after ps s) past took; stuck = tt })

pub front_left : (ps : List Text) (id : LanguageId) (rest : List Text) → StopsWith ps (Some id) rest → ReadsFront MeansOneVariant ps id rest
front_left ps id rest s =
    subst (λ l. ReadsFront MeansOneVariant l id rest) (sym s.took.1)
    (front_read one_variant_reader s.took.0 rest (Some id) id s.took.2 refl s.stuck)

pub no_language : (ps rest : List Text) → StopsWith ps None rest → HasFault MeansOneVariant ps InvalidLanguage
no_language ps [] s = one_variant_cut ps s.took.0 (none_left ps s.took.0 s.took.1) s.took.2
no_language ps (p ∷ rest) s = one_variant_refused ps s.took.0 rest None p s.took.1 s.took.2 s.stuck

abbrev Parts : Type 0
Parts = Text × Option Text × Option Text × Option Text

-- the answer there
pub front_answered : (ps rest : List Text) (parts : Option Parts) (whole : Bool) (r : Result (Parts × Bool) ParseError) → StopsWith ps (option_map parts_id parts) rest → whole ≡ has_none rest
    → MatchResult r (λ front. (parts ≡ Some front.0) × (front.1 ≡ whole)) (λ e. (parts ≡ None) × (e ≡ InvalidLanguage))
    → MatchResult r (λ front. (left : List Text) × ReadsFront MeansOneVariant ps (parts_id front.0) left × (front.1 ≡ has_none left)) (λ e. HasFault MeansOneVariant ps e × (e ≡ InvalidLanguage))
front_answered ps rest parts whole (Ok front) s w a =
    (rest, front_left ps (parts_id front.0) rest (subst (λ t. StopsWith ps t rest) (ap (option_map parts_id) a.0) s), a.1 ∙ w)
front_answered ps rest parts whole (Err e) s w a =
    (subst (HasFault MeansOneVariant ps) (sym a.1) (no_language ps rest (subst (λ t. StopsWith ps t rest) (ap (option_map parts_id) a.0) s)), a.1)

-- ---- what a front shows

-- the front is all
pub whole_front : (ps : List Text) (id : LanguageId) (rest : List Text) → ReadsFront MeansOneVariant ps id rest → has_none rest ≡ true → MeansOneVariant ps id
whole_front ps id [] front e = subst (λ l. MeansOneVariant l id) (sym (front.parts ∙ append-nil front.taken)) front.meant
whole_front ps id (p ∷ rest) front e = cc

-- the first piece after the front is at fault
pub rest_refused : (ps : List Text) (id : LanguageId) (rest : List Text) → ReadsFront MeansOneVariant ps id rest → has_none rest ≡ false → HasFault MeansOneVariant ps InvalidSubtag
rest_refused ps id [] front e = cc
rest_refused ps id (p ∷ rest) front e = record {
  front = front.taken;
  rest = p ∷ rest;
  stops = record {
    cut = front.parts;
    begins = ([], (id, subst (λ l. MeansOneVariant l id) (sym (append-nil front.taken)) front.meant));
    stops = front.longest;
  };
  named = from_case MeansOneVariant InvalidSubtag front.taken (Some p)
      (by_case MeansLanguage InvalidSubtag front.taken (Some p) (language_named front.taken (Some id) (Some p) (language_runs front.taken id front.meant.means)));
}
