use Rattle.std.proofs.Common.{ap, subst}
use Rattle.fixed_decimal_unsigned.specs.Shifts.{TrimsWhole}
use Rattle.fixed_decimal_signed.proofs.adjusting.Signed+UnsignedDecimal.trimmed_end_if_integer.Goals as goal

pub returns : goal.returns
returns c = record {
  sign = ap (λ v. v.sign) c.self.view_is;
  absolute = subst (λ v. TrimsWhole v.absolute c.trim_end_if_integer.new.self) c.self.view_is c.trim_end_if_integer.ensures;
}
