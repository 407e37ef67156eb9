use Rattle.icu_locale_core_grammar.proofs.LanguageReader.{language_reader}
use Rattle.icu_locale_core_grammar.proofs.BodyReaders.{attributes_reader, unicode_reader, transform_reader, other_reader}
use Rattle.icu_locale_core_grammar.proofs.PartReaders.{keywords_reader, fields_reader, value_reader, own_reader}
use Rattle.icu_locale_core_grammar.proofs.SingleReader.{single_reader}
use Rattle.icu_locale_core_grammar.proofs.Runs as Runs
use Rattle.icu_locale_core_grammar.proofs.PreferenceLemmas.{one_data_meaning}
use Rattle.icu_locale_core_grammar.proofs.part_laws.parts_have_one_meaning.Goals as goal

pub returns : goal.returns
returns c = record {
  language = Runs.one_meaning language_reader;
  attributes = Runs.one_meaning attributes_reader;
  unicode = Runs.one_meaning unicode_reader;
  transform = Runs.one_meaning transform_reader;
  other = Runs.one_meaning other_reader;
  own = Runs.one_meaning own_reader;
  keywords = Runs.one_meaning keywords_reader;
  fields = Runs.one_meaning fields_reader;
  value = Runs.one_meaning value_reader;
  single = Runs.one_meaning single_reader;
  data_locale = one_data_meaning;
}
