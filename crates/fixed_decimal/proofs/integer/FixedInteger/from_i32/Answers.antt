use Rattle.std.proofs.Common.{subst}
use Rattle.std.specs.Int.{w32}
use Rattle.std.proofs.lemmas.Int.{to_z-of_z}
use Rattle.fixed_decimal_signed.specs.WholeNumbers.{IsSignedWhole}
use Rattle.fixed_decimal.proofs.integer.FixedInteger.from_i32.Goals as goal

pub returns-clause-value : goal.returns-clause-value
returns-clause-value c = subst (λ z. IsSignedWhole z c.in_ok-decimal.decimal) (to_z-of_z w32 c.args.integer c.ranges.integer) c.in_ok-decimal.ensures.value
