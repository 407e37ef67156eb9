use Rattle.std.proofs.Common.{subst, arith}
use Rattle.fixed_decimal_unsigned.specs.Number.{IsNumber}
use Rattle.fixed_decimal_unsigned.proofs.StoredLemmas.{stored_is_number}
use Rattle.fixed_decimal_unsigned.proofs.unsigned_decimal.UnsignedDecimal.magnitude_range.Goals as goal

pub returns-clause-number : goal.returns-clause-number
returns-clause-number c =
    let i = c.self.inside in
    subst IsNumber c.self.view_is (stored_is_number i.digits.items i.top i.low i.high c.self.invariant (omega arith))
