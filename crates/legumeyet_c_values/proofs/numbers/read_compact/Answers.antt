use Rattle.std.proofs.Common.{subst, inr}
use Rattle.fixed_decimal.specs.CompactText.{IsNoCompactText}
use Rattle.legumeyet_c_values.proofs.numbers.read_compact.Goals as goal

pub returns-in-Err-Syntax-clause-fault : goal.returns-in-Err-Syntax-clause-fault
returns-in-Err-Syntax-clause-fault c =
    inr (subst IsNoCompactText c.in-Ok.ensures.cases.0 (c.in-Err-Syntax.ensures.syntax (cc c.in-Err-Syntax.field-0-is)))
