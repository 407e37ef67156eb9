use Rattle.icu_locale_core_grammar.proofs.TagReader.{tag_answered}
use Rattle.icu_locale_core_grammar.proofs.laws.meaning_or_fault.Goals as goal

pub returns : goal.returns
returns c = tag_answered
