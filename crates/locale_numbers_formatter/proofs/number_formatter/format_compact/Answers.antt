use Rattle.std.proofs.Common.{◌∙◌, ap, sym}
use Rattle.icu_decimal.specs.CompactText.{compact_decimal_events}
use Rattle.icu_decimal.specs.HeldCompact.{compact_tables_of}
use Rattle.locale_numbers_formatter.proofs.number_formatter.format_compact.Goals as goal

pub returns-in-Ok-clause-value : goal.returns-in-Ok-clause-value
returns-in-Ok-clause-value c =
    ap compact_decimal_events c.in-Ok.ensures.value
    ∙ sym (c.compact_is_layered.ensures.parts (compact_tables_of c.args.formatter.now) c.args.value.now)
