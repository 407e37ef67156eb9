use Rattle.icu_decimal_chains.proofs.ChainLemmas.{only_chain}
use Rattle.icu_decimal_chains.proofs.laws.one_chain.Goals as goal

pub returns : goal.returns
returns g c next start xs ys = only_chain next start xs ys
