use Rattle.icu_decimal_plurals.specs.Operands.{operands_of}
use Rattle.icu_dimension_compact.specs.HeldAmounts.{amounts_of}
use Rattle.icu_dimension_compact.proofs.CompactAmountLemmas.{under_is}
use Rattle.icu_dimension_compact.proofs.tables.CompactCurrencyTables.under.Goals as goal

pub returns-in-Some : goal.returns-in-Some
returns-in-Some c =
    under_is (amounts_of c.args.self.now) _ (operands_of c.args.significand.now 0) _ _ _ _ _ _
    c.new.ensures c.decimals.ensures c.for_ends-pattern.ensures c.patterns_for-chosen.ensures c.in-Some.ensures c.unit.ensures
