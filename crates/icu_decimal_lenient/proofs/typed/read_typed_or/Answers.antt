use Rattle.icu_decimal_lenient.proofs.TypedStepLemmas.{both_allocate}
use Rattle.icu_decimal_lenient.proofs.typed.read_typed_or.Goals as goal

pub returns-clause-memory : goal.returns-clause-memory
returns-clause-memory g c = λ refused. both_allocate (g.R.TableReader.reads_by c.args.reader.now) (g.O.TableReader.reads_by c.args.other.now) c.args.text.now (c.read_in_native.ensures.memory refused)
