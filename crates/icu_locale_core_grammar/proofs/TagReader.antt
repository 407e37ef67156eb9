-- The stages of a tag are a right reader, and the fault of a stage that does not go on has the name of its place.
use Rattle.std.proofs.Common.{◌≡◌, List, Option, None, Some, codes, sym, refl, ap, ◌⊎◌, ◌↔◌, inl, inr}
use Rattle.std.specs.Prelude.{is_none}
use Rattle.icu_locale_core_grammar.specs.declared.error.ParseError.{ParseError}
use Rattle.icu_locale_core_grammar.specs.Subtags.{Text, is_private, is_private_piece}
use Rattle.icu_locale_core_grammar.specs.LanguagePart.{LanguageId, MeansLanguage, MeansInner}
use Rattle.icu_locale_core_grammar.specs.Meaning.{put_part, no_extensions, MeansPart, MeansTag}
use Rattle.icu_locale_core_grammar.specs.FaultyPiece.{first_piece, IsAccepted, IsNamed, HasFault}
use Rattle.icu_locale_core_grammar.specs.Stepping.{run, IsReader}
use Rattle.icu_locale_core_grammar.specs.TagStages.{has_none, language_after, language_ends, body_after, body_ends, opens, TagStage, tag_start, tag_after, tag_ends, tag_fault}
use Rattle.icu_locale_core_grammar.specs.TagLaws.{IsStuckAt, StagesNameFaults}
use Rattle.icu_locale_core_grammar.proofs.SubtagLemmas.{singleton_single}
use Rattle.icu_locale_core_grammar.proofs.SingletonLemmas.{private_single, opens_single, opens_no_private, any_opens, any_own}
use Rattle.icu_locale_core_grammar.proofs.LanguageReader.{language_reader, language_stands}
use Rattle.icu_locale_core_grammar.proofs.BodyReaders.{language_closed, body_reader, body_goes_on, body_closed, body_begins, opened_by}
use Rattle.icu_locale_core_grammar.proofs.Runs.{Stop, IsStuck, answered}
use Rattle.icu_locale_core_grammar.proofs.WholeMeaning.{MeansWhole, tag_rules, tag_is_whole}
use Rattle.icu_locale_core_grammar.proofs.FaultyPieceLemmas.{named_alike}
use Rattle.icu_locale_core_grammar.proofs.WholeParts.{AreParts}
use Rattle.icu_locale_core_grammar.proofs.WholeReader.{whole_reader}
use Rattle.icu_locale_core_grammar.proofs.WholeNames.{named}

tag_parts : AreParts language_after None language_ends MeansLanguage body_after body_ends opens MeansPart is_private is_private_piece
tag_parts = record {
  front = language_reader;
  body = body_reader;
  body_goes_on = body_goes_on;
  body_begins = body_begins;
  opened_by = opened_by;
  front_closed = language_closed;
  body_closed = body_closed;
  opens_single = opens_single;
  opens_no_x = opens_no_private;
  x_single = private_single;
  some_own = (codes "a", refl);
}

whole_tag_reader : IsReader tag_after tag_start tag_ends (MeansWhole tag_rules)
whole_tag_reader = whole_reader language_after None language_ends MeansLanguage body_after body_ends opens MeansPart put_part no_extensions is_private is_private_piece tag_parts

pub tag_reader : IsReader tag_after tag_start tag_ends MeansTag
tag_reader = record {
  found = λ ps s m reached ends. (tag_is_whole ps m).1 (whole_tag_reader.found ps s m reached ends);
  only = λ ps m means. whole_tag_reader.only ps m ((tag_is_whole ps m).0 means);
  goes_on = whole_tag_reader.goes_on;
}

-- a language part is fresh exactly where nothing was read
fresh_is : (taken : List Text) (s : Option LanguageId) → run language_after (Some None) taken ≡ Some s → is_none s ≡ has_none taken
fresh_is taken s e = by_stage s (language_stands taken s e)
  where
    by_stage : (s : Option LanguageId) → MeansInner taken s → is_none s ≡ has_none taken
    by_stage None m = sym (ap has_none m)
    by_stage (Some id) m = ap has_none m.parts

whole_named : (taken : List Text) (s : TagStage) (place : Option Text) → run tag_after (Some tag_start) taken ≡ Some s → IsStuck whole_tag_reader s place → IsNamed (MeansWhole tag_rules) (tag_fault s place) taken place
whole_named taken s None r stuck =
    named language_after None language_ends MeansLanguage body_after body_ends opens MeansPart put_part no_extensions is_private is_private_piece tag_parts is_none fresh_is any_opens any_own singleton_single taken s None r stuck
whole_named taken s (Some p) r stuck =
    named language_after None language_ends MeansLanguage body_after body_ends opens MeansPart put_part no_extensions is_private is_private_piece tag_parts is_none fresh_is any_opens any_own singleton_single taken s (Some p) r stuck

same_accepted : (ps : List Text) → IsAccepted MeansTag ps ↔ IsAccepted (MeansWhole tag_rules) ps
same_accepted ps = ((λ a. (a.0, (tag_is_whole ps a.0).0 a.1)), (λ a. (a.0, (tag_is_whole ps a.0).1 a.1)))

whole_stuck : (s : TagStage) (place : Option Text) → IsStuck tag_reader s place → IsStuck whole_tag_reader s place
whole_stuck s None e = e
whole_stuck s (Some p) e = e

pub tag_named : (taken : List Text) (s : TagStage) (place : Option Text) → run tag_after (Some tag_start) taken ≡ Some s → IsStuck tag_reader s place → IsNamed MeansTag (tag_fault s place) taken place
tag_named taken s place r stuck = named_alike MeansTag (MeansWhole tag_rules) same_accepted (tag_fault s place) taken place (whole_named taken s place r (whole_stuck s place stuck))

stages_stuck : (s : TagStage) (place : Option Text) → IsStuckAt s place → IsStuck tag_reader s place
stages_stuck s None e = e
stages_stuck s (Some p) e = e

pub stages_named : StagesNameFaults
stages_named taken s place r stuck = tag_named taken s place r (stages_stuck s place stuck)

-- each list of pieces has a meaning or a fault
pub tag_answered : (ps : List Text) → IsAccepted MeansTag ps ⊎ ((e : ParseError) × HasFault MeansTag ps e)
tag_answered ps = by_answer (answered tag_reader ps)
  where
    by_answer : IsAccepted MeansTag ps ⊎ Stop tag_reader ps → IsAccepted MeansTag ps ⊎ ((e : ParseError) × HasFault MeansTag ps e)
    by_answer (inl a) = inl a
    by_answer (inr s) = inr (tag_fault s.stage (first_piece s.rest), record { front = s.front; rest = s.rest; stops = s.stops; named = tag_named s.front s.stage (first_piece s.rest) s.reached s.stuck })
