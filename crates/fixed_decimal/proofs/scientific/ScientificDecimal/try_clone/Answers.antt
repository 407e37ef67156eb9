use Rattle.std.proofs.Common.{inl, inr, subst}
use Rattle.writeable.specs.Taking.{on_err}
use Rattle.fixed_decimal_signed.specs.DigitCount.{IsLong}
use Rattle.fixed_decimal.specs.ScientificText.{ScientificValue, IsScientific}
use Rattle.fixed_decimal.proofs.scientific.ScientificDecimal.try_clone.Goals as goal

pub returns-in_err-significand-clause-room : goal.returns-in_err-significand-clause-room
returns-in_err-significand-clause-room c =
    on_err c.from_residual.result (inl (subst (λ (v : ScientificValue). IsLong v.significand.absolute.count) c.self.view_is c.in_err-significand.ensures.room))

pub returns-in_err-significand-clause-number : goal.returns-in_err-significand-clause-number
returns-in_err-significand-clause-number c =
    subst IsScientific c.self.view_is (record { significand = c.try_clone.ensures.number; exponent = c.is_whole_number.ensures.decimal; whole = c.is_whole_number.ensures.whole })

pub returns-in_err-exponent-clause-room : goal.returns-in_err-exponent-clause-room
returns-in_err-exponent-clause-room c =
    on_err c.from_residual-in_err-exponent.result (inr (subst (λ (v : ScientificValue). IsLong v.exponent.absolute.count) c.self.view_is c.in_err-exponent.ensures.room))

pub returns-in_err-exponent-clause-number : goal.returns-in_err-exponent-clause-number
returns-in_err-exponent-clause-number c =
    subst IsScientific c.self.view_is (record { significand = c.try_clone.ensures.number; exponent = c.is_whole_number.ensures.decimal; whole = c.is_whole_number.ensures.whole })

pub returns-clause-number : goal.returns-clause-number
returns-clause-number c =
    subst IsScientific c.self.view_is (record { significand = c.try_clone.ensures.number; exponent = c.is_whole_number.ensures.decimal; whole = c.is_whole_number.ensures.whole })
