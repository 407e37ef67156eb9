use Rattle.tinystr.proofs.LawLemmas.{case_settles_law}
use Rattle.tinystr.proofs.laws.case_settles.Goals as goal

pub returns : goal.returns
returns c = case_settles_law
