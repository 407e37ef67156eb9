use Rattle.tinystr.proofs.LawLemmas.{one_fault_law, texts_have_no_fault}
use Rattle.tinystr.proofs.laws.one_fault.Goals as goal

pub returns : goal.returns
returns c = record { one = one_fault_law; texts = texts_have_no_fault }
