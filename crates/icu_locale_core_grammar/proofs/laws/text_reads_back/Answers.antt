use Rattle.icu_locale_core_grammar.proofs.NormalTags.{read_again}
use Rattle.icu_locale_core_grammar.proofs.laws.text_reads_back.Goals as goal

pub returns : goal.returns
returns c = read_again
