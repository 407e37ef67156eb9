use Rattle.std.proofs.Common.{subst}
use Rattle.icu_decimal_plain.specs.PlainText.{Tables}
use Rattle.icu_decimal_lenient.specs.LenientReading.{MayAllocate}
use Rattle.icu_decimal_lenient.specs.TypedReading.{HasNoNumberTyped}
use Rattle.icu_decimal.proofs.lenient.read_lenient.Goals as goal

pub returns-clause-not_written : goal.returns-clause-not_written
returns-clause-not_written c = λ missing. subst (λ (t : Tables). HasNoNumberTyped t c.args.text.now) c.tables.ensures (c.read_lenient.ensures.not_written missing)

pub returns-clause-memory : goal.returns-clause-memory
returns-clause-memory c = λ refused. subst (λ (t : Tables). MayAllocate t c.args.text.now) c.tables.ensures (c.read_lenient.ensures.memory refused)
