use Rattle.std.proofs.Common.{subst}
use Rattle.writeable.specs.Taking.{on_err}
use Rattle.fixed_decimal_unsigned.specs.DigitCount.{IsLong}
use Rattle.fixed_decimal_unsigned.proofs.LongLemmas.{long_kept}
use Rattle.fixed_decimal_unsigned.proofs.unsigned_decimal.UnsignedDecimal.try_clone.Goals as goal

pub returns-in_err-digits-clause-room : goal.returns-in_err-digits-clause-room
returns-in_err-digits-clause-room c =
    let i = c.self.inside in
    on_err c.from_residual.result (subst (λ v. IsLong v.count) c.self.view_is (long_kept i.digits.items i.top i.low i.high c.self.invariant c.in_err-digits.ensures.room))
