use Rattle.writeable.proofs.LawsLemmas.{text_alone}
use Rattle.writeable.proofs.laws.text_alone.Goals as goal

pub returns : goal.returns
returns c = text_alone
