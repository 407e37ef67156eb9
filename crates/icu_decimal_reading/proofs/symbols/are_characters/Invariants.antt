use Rattle.std.proofs.Common.{drop}
use Rattle.std.specs.Char.{IsScalar}
use Rattle.std.specs.List.{AllByRecursion}
use Rattle.icu_decimal_reading.proofs.symbols.are_characters.Given as goal

abbrev pub invariant-loop-digit : goal.invariant-loop-digit
invariant-loop-digit l = AllByRecursion IsScalar (drop l.digit-index l.digits) → AllByRecursion IsScalar l.digits
