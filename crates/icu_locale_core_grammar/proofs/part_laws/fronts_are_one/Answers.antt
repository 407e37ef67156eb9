use Rattle.icu_locale_core_grammar.proofs.LanguageReader.{language_reader}
use Rattle.icu_locale_core_grammar.proofs.TagReader.{tag_reader}
use Rattle.icu_locale_core_grammar.proofs.PartialReadingLemmas.{one_rest, one_front_meaning}
use Rattle.icu_locale_core_grammar.proofs.part_laws.fronts_are_one.Goals as goal

pub returns : goal.returns
returns c = record {
  language = λ ps m n rest tail a b. (one_front_meaning language_reader ps m n rest tail a b, one_rest ps m n rest tail a b);
  tag = λ ps m n rest tail a b. (one_front_meaning tag_reader ps m n rest tail a b, one_rest ps m n rest tail a b);
}
