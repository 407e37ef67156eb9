use Rattle.icu_locale_core_grammar.proofs.TagReader.{tag_reader}
use Rattle.icu_locale_core_grammar.proofs.Runs as Runs
use Rattle.icu_locale_core_grammar.proofs.laws.one_meaning.Goals as goal

pub returns : goal.returns
returns c = Runs.one_meaning tag_reader
