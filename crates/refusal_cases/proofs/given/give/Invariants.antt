use Rattle.std.proofs.Common.{◌≡◌}
use Rattle.refusal_cases.proofs.given.give.Given as goal

abbrev pub invariant-loop-character : goal.invariant-loop-character
invariant-loop-character l = l.digits.count ≡ l.character-index
