use Rattle.std.proofs.Common.{◌≡◌, ◌++◌, drop}
use Rattle.icu_decimal_plurals.proofs.copying.relations_copied.Given as goal

abbrev pub invariant-loop-each : goal.invariant-loop-each
invariant-loop-each l = l.copies.items ++ drop l.each-index l.relations ≡ l.relations
