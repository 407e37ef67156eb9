use Rattle.std.proofs.Common.{subst}
use Rattle.std.specs.Int.{w16}
use Rattle.std.proofs.lemmas.Int.{to_z-of_z}
use Rattle.fixed_decimal_signed.specs.WholeNumbers.{IsSignedWhole}
use Rattle.fixed_decimal.proofs.integer.FixedInteger.from_i16.Goals as goal

pub returns-clause-value : goal.returns-clause-value
returns-clause-value c = subst (λ z. IsSignedWhole z c.in_ok-decimal.decimal) (to_z-of_z w16 c.args.integer c.ranges.integer) c.in_ok-decimal.ensures.value
