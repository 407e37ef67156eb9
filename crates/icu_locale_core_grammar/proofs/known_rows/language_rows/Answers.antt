use Rattle.std.proofs.Common.{codes}
use Rattle.icu_locale_core_grammar.proofs.AnswerLemmas.{language_row}
use Rattle.icu_locale_core_grammar.proofs.KnownParts as Rows
use Rattle.icu_locale_core_grammar.proofs.known_rows.language_rows.Goals as goal

pub returns : goal.returns
returns c = record {
  case_by_place = language_row (codes "EN-lATN-us-FONIPA-1996") (codes "en-Latn-US-1996-fonipa") Rows.case_by_place;
  region_alone = language_row (codes "de-at") (codes "de-AT") Rows.region_alone;
  undetermined = language_row (codes "und") (codes "und") Rows.undetermined;
}
