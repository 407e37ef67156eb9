use Rattle.icu_locale_core_grammar.proofs.TagReader.{tag_reader}
use Rattle.icu_locale_core_grammar.proofs.laws.tags_are_read.Goals as goal

pub returns : goal.returns
returns c = tag_reader
