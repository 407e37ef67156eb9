use Rattle.std.proofs.Common.{Some, List, Option, ap, sym, ◌∙◌}
use Rattle.std.specs.Prelude.{option_map}
use Rattle.writeable.specs.AnnotatedText.{Event, text_of}
use Rattle.legumeyet_c_values.proofs.PuttingLemmas.{put_by}
use Rattle.legumeyet_c.proofs.AskedLemmas.{form_in_range}
use Rattle.legumeyet_c.proofs.formatting.put_form_text.Goals as goal

pub returns-in-Ok : goal.returns-in-Ok
returns-in-Ok c =
    put_by _ _ _ _ _
    (λ text is. record {
      can = form_in_range c.args.formatter.now c.args.form.now (λ beyond. absurd (cc (c.in-Ok.ensures.range.1 beyond)));
      is = c.format_is_text.ensures.exact c.args.formatter.now c.args.form.now
          ∙ ap (λ (es : Option (List Event)). option_map text_of es) c.in-Ok.ensures.parts
          ∙ ap Some (sym is);
    })
    (λ error none. absurd none)
    c.put.ensures
