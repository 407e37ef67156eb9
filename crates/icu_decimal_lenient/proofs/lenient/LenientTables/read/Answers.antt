use Rattle.std.proofs.Common.{◌≡◌, true, subst}
use Rattle.icu_decimal_reading.specs.ReadingLaws.{AreTables}
use Rattle.icu_decimal_lenient.specs.LenientReading.{is_leniently_readable_by}
use Rattle.icu_decimal_lenient.proofs.TypedStepLemmas.{answered_no_number, answered_number, answered_readable}
use Rattle.icu_decimal_lenient.proofs.lenient.LenientTables.read.Goals as goal

pub returns-clause-unreadable : goal.returns-clause-unreadable
returns-clause-unreadable c = answered_readable c.args.self.now c.args.text.now c.read_typed.result (subst (λ t. is_leniently_readable_by t ≡ true) c.self.view_is c.self.invariant.readable) c.read_typed.ensures.reading

pub returns-clause-value : goal.returns-clause-value
returns-clause-value c = answered_number _ c.args.text.now c.read_typed.result (subst AreTables c.self.view_is c.are_tables.ensures) c.read_typed.ensures.reading

pub returns-clause-not_written : goal.returns-clause-not_written
returns-clause-not_written c = λ missing. answered_no_number _ c.args.text.now c.read_typed.result (subst AreTables c.self.view_is c.are_tables.ensures) c.utf8.text c.read_typed.ensures.reading missing
