use Rattle.std.proofs.Common.{subst}
use Rattle.fixed_decimal.specs.ScientificText.{IsNoScientificText}
use Rattle.fixed_decimal.proofs.scientific.ScientificDecimal.try_from_str.Goals as goal

pub returns-clause-syntax : goal.returns-clause-syntax
returns-clause-syntax c = λ e. subst IsNoScientificText c.as_bytes.ensures.value (c.try_from_utf8.ensures.syntax e)
