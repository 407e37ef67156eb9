use Rattle.std.proofs.Common.{codes}
use Rattle.icu_locale_core_grammar.specs.declared.error.ParseError.TheVariants.{InvalidLanguage, InvalidSubtag}
use Rattle.icu_locale_core_grammar.proofs.AnswerLemmas.{language_refused_row}
use Rattle.icu_locale_core_grammar.proofs.KnownParts as Rows
use Rattle.icu_locale_core_grammar.proofs.known_rows.language_refused_rows.Goals as goal

pub returns : goal.returns
returns c = record {
  singleton_refused = language_refused_row (codes "en-u-nu-latn") InvalidSubtag Rows.singleton_refused;
  private_refused = language_refused_row (codes "en-x-foo") InvalidSubtag Rows.private_refused;
  nothing_read = language_refused_row (codes "") InvalidLanguage Rows.nothing_read;
  twice_refused = language_refused_row (codes "de-1996-1996") InvalidSubtag Rows.twice_refused;
}
