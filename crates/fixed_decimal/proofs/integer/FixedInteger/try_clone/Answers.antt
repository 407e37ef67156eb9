use Rattle.std.proofs.Common.{subst}
use Rattle.writeable.specs.Taking.{on_err}
use Rattle.fixed_decimal_signed.specs.Number.{Number}
use Rattle.fixed_decimal_signed.specs.DigitCount.{IsLong}
use Rattle.fixed_decimal_signed.specs.SignedValue.{SignedValue}
use Rattle.fixed_decimal.proofs.integer.FixedInteger.try_clone.Goals as goal

pub returns-in_err-decimal-clause-room : goal.returns-in_err-decimal-clause-room
returns-in_err-decimal-clause-room c =
    on_err c.from_residual.result (subst (λ (v : SignedValue Number). IsLong v.absolute.count) c.self.view_is c.in_err-decimal.ensures.room)
