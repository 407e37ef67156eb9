use Rattle.std.proofs.Common.{subst}
use Rattle.icu_decimal_reading.specs.ReadingLaws.{AreTables}
use Rattle.icu_decimal_lenient.proofs.LenientStepLemmas.{answered_no_typed, answered_typed}
use Rattle.icu_decimal_lenient.proofs.lenient.LenientTables.read_without_native.Goals as goal

pub returns-clause-value : goal.returns-clause-value
returns-clause-value c = answered_typed _ c.args.text.now c.answer.result (subst AreTables c.self.view_is c.are_tables.ensures) c.answer.ensures.reading

pub returns-clause-not_written : goal.returns-clause-not_written
returns-clause-not_written c = λ missing. answered_no_typed _ c.args.text.now c.answer.result (subst AreTables c.self.view_is c.are_tables.ensures) c.utf8.text c.answer.ensures.reading missing
