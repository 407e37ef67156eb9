use Rattle.icu_decimal_lenient.proofs.TypedStepLemmas.{one_allocates}
use Rattle.icu_decimal_lenient.proofs.typed.read_typed.Goals as goal

pub returns-clause-memory : goal.returns-clause-memory
returns-clause-memory g c = λ refused. one_allocates (g.R.TableReader.reads_by c.args.reader.now) c.args.text.now (c.read_in_native.ensures.memory refused)
