use Rattle.std.proofs.Common.{◌≡◌, drop}
use Rattle.icu_dimension_compact.specs.AmountTables.{fit_from}
use Rattle.icu_dimension_compact.proofs.short_currency_compact.exponents_fit.Given as goal

abbrev pub invariant-loop-entry : goal.invariant-loop-entry
invariant-loop-entry l = fit_from l.least (drop l.entry-index l.entries) ≡ fit_from 0 l.entries
