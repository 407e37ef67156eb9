use Rattle.std.proofs.Common.{rules}
use Rattle.icu_decimal_plain.proofs.owned_tables.OwnedDecimalTables.try_from_tables.Goals as goal

pub invariant_of-result : goal.invariant_of-result
invariant_of-result c = rw (c.in_ok-symbols.ensures.value) search rules
