use Rattle.std.proofs.Common.{◌∙◌, ap}
use Rattle.icu_decimal_plurals.specs.Operands.{operands_of}
use Rattle.icu_decimal.proofs.formatted_compact.FormattedUnsignedCompactDecimal.operands.Goals as goal

pub returns : goal.returns
returns c =
    c.from_significand_and_exponent.ensures
    ∙ ap (λ number. operands_of number c.exponent.result) c.significand.ensures
    ∙ ap (λ exponent. operands_of c.args.self.now.plain.number exponent) c.exponent.ensures
