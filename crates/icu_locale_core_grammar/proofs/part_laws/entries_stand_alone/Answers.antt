use Rattle.icu_locale_core_grammar.proofs.PartReaders.{keywords_after, keywords_alone, fields_after, fields_alone}
use Rattle.icu_locale_core_grammar.proofs.part_laws.entries_stand_alone.Goals as goal

pub returns : goal.returns
returns c = record { keywords = λ ps es. (keywords_after ps es, keywords_alone ps es); fields = λ ps es. (fields_after ps es, fields_alone ps es) }
