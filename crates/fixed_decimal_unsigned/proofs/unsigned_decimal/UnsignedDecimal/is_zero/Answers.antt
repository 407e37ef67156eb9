use Rattle.std.proofs.Common.{◌==◌, ◌∙◌, ap}
use Rattle.fixed_decimal_unsigned.proofs.StoredLemmas.{zero_tested}
use Rattle.fixed_decimal_unsigned.proofs.unsigned_decimal.UnsignedDecimal.is_zero.Goals as goal

pub returns : goal.returns
returns c =
    c.is_empty.ensures ∙ zero_tested c.self.inside.digits.items c.self.inside.top c.self.invariant.tight.first
    ∙ ap (λ v. v.count == 0) c.self.view_is
