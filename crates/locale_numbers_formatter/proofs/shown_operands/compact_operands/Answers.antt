use Rattle.std.proofs.Common.{sym, ◌∙◌}
use Rattle.std.proofs.lemmas.Bool.{false≢true}
use Rattle.icu_decimal.specs.HeldCompact.{compact_tables_of}
use Rattle.locale_numbers_formatter.proofs.ShownOperandsLemmas.{none_seen, some_seen}
use Rattle.locale_numbers_formatter.proofs.shown_operands.compact_operands.Goals as goal

pub returns-then-can_format-clause-operands : goal.returns-then-can_format-clause-operands
returns-then-can_format-clause-operands c =
    some_seen (compact_tables_of c.args.formatter.now) c.args.value.now c.show_operands.result (c.can_format.ensures.0 c.if-can_format.true) c.show_operands.ensures.operands

pub returns-else-can_format-clause-operands : goal.returns-else-can_format-clause-operands
returns-else-can_format-clause-operands c =
    none_seen (compact_tables_of c.args.formatter.now) c.args.value.now (λ can. false≢true (sym c.if-can_format.false ∙ c.can_format.ensures.1 can))
