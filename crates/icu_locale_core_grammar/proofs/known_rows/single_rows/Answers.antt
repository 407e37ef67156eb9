use Rattle.std.proofs.Common.{codes}
use Rattle.icu_locale_core_grammar.proofs.AnswerLemmas.{single_row}
use Rattle.icu_locale_core_grammar.proofs.KnownParts as Rows
use Rattle.icu_locale_core_grammar.proofs.known_rows.single_rows.Goals as goal

pub returns : goal.returns
returns c = record {
  one_of_each = single_row (codes "EN-latn-us-FONIPA-u-NU-Latn") (codes "en-Latn-US-fonipa-u-nu-latn") Rows.one_of_each;
  key_alone = single_row (codes "en-u-nu") (codes "en-u-nu") Rows.key_alone;
  true_is_no_piece = single_row (codes "en-u-kn-true") (codes "en-u-kn") Rows.true_is_no_piece;
  no_keyword = single_row (codes "de-1996") (codes "de-1996") Rows.no_keyword;
}
