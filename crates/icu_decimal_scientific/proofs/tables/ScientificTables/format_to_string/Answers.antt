use Rattle.std.proofs.Common.{◌≡◌, ◌∙◌, ap, subst, IfOk, string_bytes}
use Rattle.writeable.specs.AnnotatedText.{text_of}
use Rattle.icu_decimal_scientific.specs.HeldTables.{settings_of}
use Rattle.icu_decimal_scientific.specs.ExponentialText.{scientific_events}
use Rattle.icu_decimal_scientific.proofs.ScientificTextLemmas.{scientific_is_text}
use Rattle.icu_decimal_scientific.proofs.tables.ScientificTables.format_to_string.Goals as goal

-- the text that the events write
pub returns : goal.returns
returns c =
    subst (λ written. IfOk c.write_to_string.result (λ text. string_bytes text ≡ written))
    (ap (λ formatted. text_of (scientific_events formatted)) c.format.ensures ∙ scientific_is_text (settings_of c.args.self.now) c.args.value.now)
    c.write_to_string.ensures.ok
