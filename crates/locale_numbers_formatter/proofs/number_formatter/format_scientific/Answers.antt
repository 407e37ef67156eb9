use Rattle.std.proofs.Common.{◌≡◌, ◌∙◌, ap, sym}
use Rattle.fixed_decimal.specs.ScientificText.{ScientificValue}
use Rattle.icu_decimal_scientific.specs.ExponentialText.{scientific_events, scientific_formatted}
use Rattle.locale_numbers_formatter.specs.HeldScientific.{scientific_held}
use Rattle.locale_numbers_formatter.specs.Laws.{scientific_number}
use Rattle.locale_numbers_formatter.proofs.number_formatter.format_scientific.Goals as goal

pub returns-in-Ok-clause-value : goal.returns-in-Ok-clause-value
returns-in-Ok-clause-value c =
    let s = scientific_held c.args.formatter.now in
    let shown : ScientificValue = record { significand = c.show.new.value; exponent = c.in-Ok.exponent } in
    let of_copy : shown ≡ scientific_number s c.in_ok-significand.significand =
    λ i. record { significand = c.in-Ok.ensures.significand i; exponent = c.in-Ok.ensures.exponent i } in
    let same : shown ≡ scientific_number s c.args.value.now = of_copy ∙ ap (scientific_number s) c.in_ok-significand.ensures.value in
    ap scientific_events (c.new.ensures ∙ ap (scientific_formatted s.settings) same)
    ∙ sym (c.scientific_is_layered.ensures.parts s c.args.value.now)
