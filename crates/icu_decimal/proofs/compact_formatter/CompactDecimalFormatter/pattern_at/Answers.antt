use Rattle.std.proofs.Common.{◌∙◌, Some, ap, option_map}
use Rattle.icu_decimal_patterns.specs.Elements.{slot_of}
use Rattle.icu_decimal_patterns.specs.KeptEntries.{Patterns}
use Rattle.icu_decimal_plurals.specs.Operands.{operands_of}
use Rattle.icu_decimal.proofs.compact_formatter.CompactDecimalFormatter.pattern_at.Goals as goal

pub returns-in-Some : goal.returns-in-Some
returns-in-Some c =
    ap (λ p. Some p) c.pattern_for.ensures
    ∙ ap (option_map (λ (patterns : Patterns). slot_of patterns c.args.self.now.rules.now (operands_of c.args.significand.now 0))) c.in-Some.ensures

pub returns-in-None : goal.returns-in-None
returns-in-None c =
    ap (option_map (λ (patterns : Patterns). slot_of patterns c.args.self.now.rules.now (operands_of c.args.significand.now 0))) c.in-None.ensures
