use Rattle.std.proofs.Common.{codes}
use Rattle.icu_locale_core_grammar.specs.declared.error.ParseError.TheVariants.{InvalidLanguage, InvalidSubtag, InvalidExtension}
use Rattle.icu_locale_core_grammar.proofs.AnswerLemmas.{single_refused_row}
use Rattle.icu_locale_core_grammar.proofs.KnownParts as Rows
use Rattle.icu_locale_core_grammar.proofs.known_rows.single_refused_rows.Goals as goal

pub returns : goal.returns
returns c = record {
  second_variant = single_refused_row (codes "de-1996-fonipa") InvalidSubtag Rows.second_variant;
  second_keyword = single_refused_row (codes "en-u-nu-latn-ca-hebrew") InvalidExtension Rows.second_keyword;
  equal_keyword = single_refused_row (codes "en-u-nu-latn-nu-thai") InvalidExtension Rows.equal_keyword;
  second_piece = single_refused_row (codes "en-u-ca-islamic-civil") InvalidExtension Rows.second_piece;
  attribute_refused = single_refused_row (codes "en-u-foo") InvalidExtension Rows.attribute_refused;
  other_extension = single_refused_row (codes "en-a-foo") InvalidExtension Rows.other_extension;
  private_extension = single_refused_row (codes "en-x-foo") InvalidExtension Rows.private_extension;
  transform_extension = single_refused_row (codes "en-t-de") InvalidExtension Rows.transform_extension;
  unicode_twice = single_refused_row (codes "en-u-nu-u") InvalidExtension Rows.unicode_twice;
  empty_extension = single_refused_row (codes "en-u") InvalidExtension Rows.empty_extension;
  no_singleton = single_refused_row (codes "en-@") InvalidSubtag Rows.no_singleton;
  no_language = single_refused_row (codes "x-foo") InvalidLanguage Rows.no_language;
}
