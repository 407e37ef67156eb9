use Rattle.std.proofs.Common.{ap, ◌∙◌}
use Rattle.std.proofs.lemmas.Result.{IfOk-weaker}
use Rattle.writeable.specs.AnnotatedText.{text_of}
use Rattle.icu_dimension_compact.specs.CompactAmounts.{amount_events}
use Rattle.icu_dimension_compact.specs.HeldAmounts.{amounts_of}
use Rattle.icu_dimension_compact.proofs.CompactAmountLemmas.{amount_is_text}
use Rattle.icu_dimension_compact.proofs.tables.CompactCurrencyTables.format_to_string.Goals as goal

pub returns : goal.returns
returns c =
    IfOk-weaker c.write_to_string-2.result _ _
    (λ text same. same ∙ ap (λ a. text_of (amount_events a)) c.in_ok-format.ensures.value ∙ amount_is_text (amounts_of c.args.self.now) c.args.value.now)
    c.write_to_string-2.ensures.ok
