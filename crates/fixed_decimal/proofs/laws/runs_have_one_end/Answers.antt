use Rattle.fixed_decimal.proofs.RunOnceLemmas.{runs_once}
use Rattle.fixed_decimal.proofs.laws.runs_have_one_end.Goals as goal

pub returns : goal.returns
returns c = runs_once
