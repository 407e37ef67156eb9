use Rattle.std.proofs.Common.{◌+◌, ◌-◌, length, subst}
use Rattle.fixed_decimal_unsigned.specs.DigitCount.{HoldsDigits}
use Rattle.fixed_decimal_unsigned.proofs.LongLemmas.{kept_holds}
use Rattle.fixed_decimal_unsigned.proofs.unsigned_decimal.UnsignedDecimal.assign_from_utf8.Goals as goal

pub returns-in-Err-clause-syntax : goal.returns-in-Err-clause-syntax
returns-in-Err-clause-syntax c = λ e. c.in-Err.ensures.syntax (cc)

pub returns-in-Err-clause-memory : goal.returns-in-Err-clause-memory
returns-in-Err-clause-memory c = λ e. c.in-Err.ensures.memory (cc)

pub returns-in-Err-clause-room : goal.returns-in-Err-clause-room
returns-in-Err-clause-room c = λ e.
    let i = c.self.inside in
    c.in-Err.ensures.kept (cc) c.args.self.now.count (i.top + 1 - length i.digits.items)
    (subst (λ v. HoldsDigits v.count (i.top + 1 - length i.digits.items) (length i.digits.items)) c.self.view_is
    (kept_holds i.digits.items i.top i.low i.high c.self.invariant))
