use Rattle.std.proofs.Common.{ap, ◌∙◌}
use Rattle.std.proofs.lemmas.Result.{IfOk-weaker}
use Rattle.writeable.specs.AnnotatedText.{text_of}
use Rattle.icu_decimal.specs.CompactText.{compact_decimal_events}
use Rattle.icu_decimal.specs.HeldCompact.{compact_tables_of}
use Rattle.icu_decimal.proofs.CompactTextLemmas.{compact_is_text}
use Rattle.icu_decimal.proofs.compact_formatter.CompactDecimalFormatter.format_to_string.Goals as goal

pub returns : goal.returns
returns c =
    IfOk-weaker c.write_to_string-2.result _ _
    (λ text same. same ∙ ap (λ s. text_of (compact_decimal_events s)) c.in_ok-format.ensures.value ∙ compact_is_text (compact_tables_of c.args.self.now) c.args.value.now)
    c.write_to_string-2.ensures.ok
