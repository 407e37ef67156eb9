use Rattle.std.proofs.Common.{ap, arith, subst}
use Rattle.fixed_decimal.specs.CompactText.{IsCompact}
use Rattle.fixed_decimal.proofs.compact.CompactDecimal.try_clone.Goals as goal

pub returns-in_err-significand-clause-number : goal.returns-in_err-significand-clause-number
returns-in_err-significand-clause-number c =
    subst IsCompact c.self.view_is (record { significand = c.try_clone.ensures.number; exponent = omega (arith, c.exponent-exponent.type_inv, c.exponent-exponent.ensures, ap (λ v. v.exponent) c.self.view_is) })

pub returns-clause-number : goal.returns-clause-number
returns-clause-number c =
    subst IsCompact c.self.view_is (record { significand = c.try_clone.ensures.number; exponent = omega (arith, c.exponent-exponent.type_inv, c.exponent-exponent.ensures, ap (λ v. v.exponent) c.self.view_is) })
