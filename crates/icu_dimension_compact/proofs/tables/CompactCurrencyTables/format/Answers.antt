use Rattle.icu_dimension_compact.specs.HeldAmounts.{amounts_of}
use Rattle.icu_dimension_compact.proofs.CompactAmountLemmas.{made_is}
use Rattle.icu_dimension_compact.proofs.tables.CompactCurrencyTables.format.Goals as goal

pub returns-clause-value : goal.returns-clause-value
returns-clause-value c =
    made_is (amounts_of c.args.self.now) c.args.value.now c.value.inside.sign c.value.inside.absolute _
    (record { significand = c.shown.inside.significand; exponent = c.shown.inside.exponent; entry = c.shown.inside.entry }) _ _ _
    c.new.ensures c.under-tables.ensures c.shown.view_is c.value.view_is c.entries.ensures.value c.in_ok-shown.ensures.value
