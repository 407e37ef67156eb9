use Rattle.icu_locale_core_grammar.proofs.NormalBodies.{language_means, attributes_mean, other_means}
use Rattle.icu_locale_core_grammar.proofs.PartPlain.{unicode_back, transform_back, private_back, keywords_back, fields_back, value_back}
use Rattle.icu_locale_core_grammar.proofs.PreferenceLemmas.{data_reads_back}
use Rattle.icu_locale_core_grammar.proofs.part_laws.parts_read_back.Goals as goal

pub returns : goal.returns
returns c = record {
  language = language_means;
  attributes = attributes_mean;
  unicode = unicode_back;
  transform = transform_back;
  other = other_means;
  own = private_back;
  keywords = keywords_back;
  fields = fields_back;
  value = value_back;
  data_locale = data_reads_back;
}
