use Rattle.std.proofs.Common.{inr}
use Rattle.icu_decimal_lenient.proofs.typed.BothNativeReader.read_as_is.Goals as goal

pub returns-clause-memory : goal.returns-clause-memory
returns-clause-memory g c = λ ran_out. inr (c.read_folded-2.ensures.memory (c.unless_other.ensures.memory ran_out))
