use Rattle.icu_locale_core_grammar.proofs.TagReader.{stages_named}
use Rattle.icu_locale_core_grammar.proofs.laws.stages_name_faults.Goals as goal

pub returns : goal.returns
returns c = stages_named
