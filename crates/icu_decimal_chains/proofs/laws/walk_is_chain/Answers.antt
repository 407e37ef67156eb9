use Rattle.icu_decimal_chains.proofs.ChainLemmas.{walked}
use Rattle.icu_decimal_chains.proofs.laws.walk_is_chain.Goals as goal

pub returns : goal.returns
returns g c next n start xs = walked next n start xs
