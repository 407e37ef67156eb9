use Rattle.std.proofs.Common.{subst}
use Rattle.fixed_decimal_signed.specs.SignedText.{IsNoSignedText}
use Rattle.fixed_decimal_signed.proofs.decimal.Signed+UnsignedDecimal.try_from_str.Goals as goal

pub returns-clause-syntax : goal.returns-clause-syntax
returns-clause-syntax c = λ e. subst IsNoSignedText c.as_bytes.ensures.value (c.try_from_utf8.ensures.syntax e)
