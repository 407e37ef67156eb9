use Rattle.tinystr.proofs.LawLemmas.{one_form_law}
use Rattle.tinystr.proofs.laws.one_form.Goals as goal

pub returns : goal.returns
returns c = one_form_law
