use Rattle.std.proofs.Common.{◌∙◌, ap}
use Rattle.icu_decimal_plurals.specs.Operands.{operands_of}
use Rattle.icu_decimal.specs.CompactText.{CompactNumber}
use Rattle.icu_decimal.proofs.abstract_formatter.CompactDecimalFormatterAbstractFormatter.plural_operands.Goals as goal

pub returns-clause-value : goal.returns-clause-value
returns-clause-value c =
    c.operands-2.ensures ∙ ap (λ (shown : CompactNumber). operands_of shown.plain.number shown.exponent) c.in_ok-shown.ensures.value
