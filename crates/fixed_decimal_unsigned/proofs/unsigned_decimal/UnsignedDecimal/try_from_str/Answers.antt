use Rattle.std.proofs.Common.{subst}
use Rattle.fixed_decimal_unsigned.specs.NumberText.{IsNoText}
use Rattle.fixed_decimal_unsigned.proofs.unsigned_decimal.UnsignedDecimal.try_from_str.Goals as goal

pub returns-clause-syntax : goal.returns-clause-syntax
returns-clause-syntax c = λ e. subst IsNoText c.as_bytes.ensures.value (c.try_from_utf8.ensures.syntax e)
