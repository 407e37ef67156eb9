use Rattle.std.proofs.Common.{◌≡◌, ℤ, min, of_z, to_z, w32, true, rules, ap, sym, ◌∙◌}
use Rattle.std.proofs.lemmas.Bool.{false≢true}
use Rattle.fixed_decimal.specs.Number.{Number}
use Rattle.fixed_decimal.specs.Shifts.{rise}
use Rattle.fixed_decimal.specs.SignedValue.{SignedValue}
use Rattle.icu_decimal.specs.Operands.{operands_of}
use Rattle.icu_decimal_scientific.specs.Scientific.{ScientificParts}
use Rattle.locale_numbers_formatter.specs.FormatText.{form_shown}
use Rattle.locale_numbers_formatter.specs.HeldScientific.{scientific_held}
use Rattle.locale_numbers_formatter.proofs.ScientificLemmas.{form_seen, no_form_seen}
use Rattle.locale_numbers_formatter.proofs.shown_operands.scientific_operands.Goals as goal

pub returns-then-not-can_show-clause-operands : goal.returns-then-not-can_show-clause-operands
returns-then-not-can_show-clause-operands c =
    no_form_seen (scientific_held c.args.formatter.now) c.args.value.now (λ whole. false≢true (sym c.if-not-can_show.true ∙ c.can_show.ensures.1 whole))

pub returns-clause-operands : goal.returns-clause-operands
returns-clause-operands c =
    let can : c.can_show.result ≡ true = search rules in
    let form : ScientificParts = record { significand = c.show_form.new.value; exponent = c.in_ok-exponent.exponent } in
    let value : form ≡ form_shown (scientific_held c.args.formatter.now) c.args.value.now = c.in_ok-exponent.ensures.value in
    let same : to_z w32 (of_z w32 c.in_ok-exponent.exponent) ≡ c.in_ok-exponent.exponent = search rules in
    let seen : c.seen_exponent-seen.result ≡ min 255 (rise c.in_ok-exponent.exponent) = c.seen_exponent-seen.ensures ∙ ap (λ (e : ℤ). min 255 (rise e)) same in
    form_seen (scientific_held c.args.formatter.now) c.args.value.now form c.from_significand_and_exponent.result value
    (c.from_significand_and_exponent.ensures ∙ ap (λ (v : SignedValue Number). operands_of v.absolute c.seen_exponent-seen.result) c.value.view_is ∙ ap (operands_of c.show_form.new.value.absolute) seen)
    (c.can_show.ensures.0 can)
