use Rattle.std.proofs.Common.{◌≡◌, ◌∷◌, ap, sym, ◌∙◌, rules}
use Rattle.fixed_decimal.specs.NumberText.{minus}
use Rattle.locale_numbers_formats.specs.Cutting.{cut_at}
use Rattle.locale_numbers_requests.specs.RoundingField.{significant_in}
use Rattle.legumeyet_options.specs.Digits.{significant_counts}
use Rattle.legumeyet_options.proofs.DigitsLemmas.{two_or_more}
use Rattle.legumeyet_options.proofs.significant.significant_said.Goals as goal

pub returns-in_default-Some : goal.returns-in_default-Some
returns-in_default-Some c =
    let first = c.cut_field.result.0.now in
    let rest = c.in_default-Some.field-0-1.now in
    let pieces : cut_at minus c.args.word.now ≡ first ∷ cut_at minus rest = search rules in
    c.significant_in.ensures ∙ ap significant_in pieces ∙ two_or_more first rest ∙ sym (ap significant_counts pieces)
