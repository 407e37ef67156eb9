use Rattle.tinystr.proofs.LawLemmas.{niche_law}
use Rattle.tinystr.proofs.laws.niche_is_no_form.Goals as goal

pub returns : goal.returns
returns c = niche_law
