use Rattle.std.proofs.Common.{rules, ◌≡◌, true, ap, sym, ◌∙◌}
use Rattle.locale_numbers_formats.specs.declared.NumberOptions.{NumberOptions}
use Rattle.locale_numbers_formatter.specs.FormatText.{FormatTables}
use Rattle.legumeyet_c_values.specs.UsualOptions.{is_usual}
use Rattle.legumeyet_c_values.specs.Words.{usual}
use Rattle.legumeyet_c_values.proofs.UsualLemmas.{usual_is}
use Rattle.legumeyet_c.specs.HeldFormats.{in_numbers}
use Rattle.legumeyet_c.specs.Writing.{asked_for}
use Rattle.legumeyet_c.proofs.direct.plain_texts.Goals as goal

pub returns-in-Some : goal.returns-in-Some
returns-in-Some c =
    let is : is_usual c.args.options.now ≡ true = search rules in
    ap (λ (f : FormatTables). asked_for (in_numbers f) usual) c.in-Some.ensures
    ∙ ap (λ (o : NumberOptions). asked_for (in_numbers c.args.formatter.now) o) (sym (usual_is c.args.options.now is))
