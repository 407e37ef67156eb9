use Rattle.icu_locale_core_grammar.proofs.LanguageReader.{language_reader, inner_reader}
use Rattle.icu_locale_core_grammar.proofs.BodyReaders.{attributes_reader, unicode_reader, transform_reader, other_reader}
use Rattle.icu_locale_core_grammar.proofs.PartReaders.{keywords_reader, fields_reader, value_reader, own_reader}
use Rattle.icu_locale_core_grammar.proofs.SingleReader.{single_reader}
use Rattle.icu_locale_core_grammar.proofs.part_laws.parts_are_read.Goals as goal

pub returns : goal.returns
returns c = record { language = language_reader; inner = inner_reader; attributes = attributes_reader; unicode = unicode_reader; transform = transform_reader; other = other_reader; own = own_reader; keywords = keywords_reader; fields = fields_reader; value = value_reader; single = single_reader }
