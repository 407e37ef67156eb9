use Rattle.tinystr.proofs.LawLemmas.{equal_texts_law}
use Rattle.tinystr.proofs.laws.equal_texts.Goals as goal

pub returns : goal.returns
returns c = equal_texts_law
