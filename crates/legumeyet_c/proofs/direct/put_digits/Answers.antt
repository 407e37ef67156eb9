use Rattle.std.proofs.Common.{sym, ◌∙◌}
use Rattle.icu_decimal_direct.specs.TextDigits.{number_spelled}
use Rattle.icu_decimal_direct.specs.TextTables.{text_tables}
use Rattle.legumeyet_c_values.proofs.PuttingLemmas.{put_by}
use Rattle.legumeyet_c.proofs.direct.put_digits.Goals as goal

pub returns : goal.returns
returns c =
    put_by _ _ _ _ _
    (λ text is. record {
      can = tt;
      is = is ∙ c.put-end.ensures.text ∙ sym (c.plain_is_layered.ensures.text (text_tables c.args.texts.now) (number_spelled c.args.digits.now));
    })
    (λ error none. absurd none)
    c.put_bytes.ensures
