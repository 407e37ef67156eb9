use Rattle.icu_locale_core_grammar.proofs.NormalOrder.{blocks_rise}
use Rattle.icu_locale_core_grammar.proofs.laws.singletons_rise.Goals as goal

pub returns : goal.returns
returns c = blocks_rise
