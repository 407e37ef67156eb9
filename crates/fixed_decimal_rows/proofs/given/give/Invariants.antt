use Rattle.std.proofs.Common.{◌≡◌}
use Rattle.fixed_decimal_rows.proofs.given.give.Given as goal

abbrev pub invariant-loop-character : goal.invariant-loop-character
invariant-loop-character l = l.digits.count ≡ l.character-index
