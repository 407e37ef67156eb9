use Rattle.std.proofs.Common.{◌≡◌, ◌∷◌, ap, sym, ◌∙◌, rules}
use Rattle.locale_numbers_formats.specs.Cutting.{cut_at}
use Rattle.locale_numbers_requests.specs.RoundingField.{comma}
use Rattle.legumeyet_options.specs.Digits.{round_in}
use Rattle.legumeyet_options.proofs.DigitsLemmas.{more_than_three}
use Rattle.legumeyet_options.proofs.digits.round_behind.Goals as goal

pub returns-in_default-Some-cut_field : goal.returns-in_default-Some-cut_field
returns-in_default-Some-cut_field c =
    let position = c.args.position.now in
    let mode = c.cut_field.result.0.now in
    let increment = c.cut_field-in_default-Some.result.0.now in
    let rest = c.in_default-Some-cut_field.field-0-1.now in
    let three : cut_at comma c.args.rest.now ≡ mode ∷ increment ∷ cut_at comma rest = search rules in
    sym (ap (λ words. round_in (position ∷ words)) three ∙ more_than_three position mode increment rest)
