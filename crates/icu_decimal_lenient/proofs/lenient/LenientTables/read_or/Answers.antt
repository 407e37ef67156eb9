use Rattle.std.proofs.Common.{subst, ◌≡◌, true}
use Rattle.icu_decimal_reading.specs.ReadingLaws.{AreTables}
use Rattle.icu_decimal_lenient.specs.LenientReading.{is_leniently_readable_by}
use Rattle.icu_decimal_lenient.proofs.TypedStepLemmas.{answered_both_readable, answered_by_none, answered_by_one}
use Rattle.icu_decimal_lenient.proofs.lenient.LenientTables.read_or.Goals as goal

pub returns-clause-unreadable : goal.returns-clause-unreadable
returns-clause-unreadable c =
    answered_both_readable c.args.self.now c.args.other.now c.args.text.now c.read_typed_or.result (subst (λ t. is_leniently_readable_by t ≡ true) c.self.view_is c.self.invariant.readable)
    (subst (λ t. is_leniently_readable_by t ≡ true) c.other.view_is c.other.invariant.readable) c.read_typed_or.ensures.reading

pub returns-clause-value : goal.returns-clause-value
returns-clause-value c =
    answered_by_one _ _ c.args.text.now c.read_typed_or.result (subst AreTables c.self.view_is c.are_tables.ensures) (subst AreTables c.other.view_is c.are_tables-2.ensures) c.read_typed_or.ensures.reading

pub returns-clause-not_written : goal.returns-clause-not_written
returns-clause-not_written c = λ missing.
    answered_by_none _ _ c.args.text.now c.read_typed_or.result (subst AreTables c.self.view_is c.are_tables.ensures) (subst AreTables c.other.view_is c.are_tables-2.ensures) c.utf8.text c.read_typed_or.ensures.reading missing
