use Rattle.std.proofs.Common.{◌≡◌, ℕ, ◌+◌, ◌≤◌, ◌<◌, ◌++◌, List, length, drop, ◌^◌}
use Rattle.std.specs.Fmt.{decimal}
use Rattle.tinystr.proofs.decimal.put_digits.Given as goal

-- the digits of what is left, and after them those that are there already, are the number's
pub record Left (number rest start : ℕ) (digits : List ℕ) : Type 0 where
  pub small : rest < 2 ^ 32
  pub within : start < 10
  pub long : length digits ≡ 10
  pub room : length (decimal rest) ≤ start + 1
  pub text : decimal rest ++ drop (start + 1) digits ≡ decimal number

abbrev pub invariant-loop-rest : goal.invariant-loop-rest
invariant-loop-rest l = Left l.fn.number l.rest l.start l.digits

abbrev pub decreases-loop-rest : goal.decreases-loop-rest
decreases-loop-rest l = l.rest
