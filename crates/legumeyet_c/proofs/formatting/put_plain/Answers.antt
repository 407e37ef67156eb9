use Rattle.std.proofs.Common.{ap, sym, ◌∙◌}
use Rattle.writeable.specs.AnnotatedText.{text_of}
use Rattle.icu_decimal.specs.HeldTables.{tables_of}
use Rattle.icu_decimal.specs.PlainText.{decimal_events}
use Rattle.icu_decimal.proofs.TextLemmas.{decimal_is_text}
use Rattle.legumeyet_c_values.proofs.PuttingLemmas.{put_by}
use Rattle.legumeyet_c.proofs.formatting.put_plain.Goals as goal

pub returns : goal.returns
returns c =
    put_by _ _ _ _ _
    (λ text is. record {
      can = tt;
      is = is
          ∙ ap (λ shown. text_of (decimal_events shown)) c.format.ensures
          ∙ decimal_is_text (tables_of c.args.formatter.now) c.args.value.now
          ∙ sym (c.plain_is_layered.ensures.text (tables_of c.args.formatter.now) c.args.value.now);
    })
    (λ error none. absurd none)
    c.put.ensures
