use Rattle.tinystr.proofs.LawLemmas.{case_meets_cut_law}
use Rattle.tinystr.proofs.laws.case_meets_cut.Goals as goal

pub returns : goal.returns
returns c = case_meets_cut_law
