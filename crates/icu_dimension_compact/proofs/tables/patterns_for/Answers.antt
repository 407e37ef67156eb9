use Rattle.std.proofs.Common.{◌∙◌, ap}
use Rattle.icu_decimal_patterns.specs.Elements.{slot_of}
use Rattle.icu_decimal_patterns.proofs.ElementsLemmas.{taken_by_all}
use Rattle.icu_decimal_plurals.specs.Operands.{Operands, operands_of}
use Rattle.icu_dimension_compact.proofs.tables.patterns_for.Goals as goal

pub returns-in-Some : goal.returns-in-Some
returns-in-Some c =
    taken_by_all c.args.patterns.now c.in-Some.alone.now c.args.rules.now (operands_of c.args.significand.now 0) c.in-Some.ensures.some

pub returns-in-None : goal.returns-in-None
returns-in-None c =
    c.get.ensures ∙ ap (λ (o : Operands). slot_of c.args.patterns.now c.args.rules.now o) c.from_significand_and_exponent-operands.ensures
