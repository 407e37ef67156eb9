use Rattle.std.proofs.Common.{◌≡◌, ◌↔◌, IfNone, IfSome, IsSome, subst}
use Rattle.fixed_decimal.specs.Number.{Number}
use Rattle.fixed_decimal.specs.SignedValue.{SignedValue}
use Rattle.icu_decimal_scientific.specs.FormOf.{below_form, form_of}
use Rattle.icu_decimal_scientific.proofs.FormOfLemmas.{made_none, made_some, made_value}
use Rattle.icu_decimal_scientific.proofs.number.make_significand.Goals as goal

pub returns-clause-succeeds : goal.returns-clause-succeeds
returns-clause-succeeds c =
    let old : SignedValue Number = record { sign = c.value.inside.sign; absolute = c.value.inside.absolute } in
    subst (λ (d : SignedValue Number). IsSome c.take_form.result ↔ (below_form c.args.notation d.absolute.count ≡ 0)) c.value.view_is
    (made_some c.args.notation old c.take_form.new.number c.magnitude_range-number.ensures.number c.take_form.result c.take_form.ensures.some c.take_form.ensures.none)

pub returns-clause-value : goal.returns-clause-value
returns-clause-value c =
    let old : SignedValue Number = record { sign = c.value.inside.sign; absolute = c.value.inside.absolute } in
    subst (λ (d : SignedValue Number). IfSome c.take_form.result (λ e. record { significand = record { sign = c.value.inside.sign; absolute = c.take_form.new.number }; exponent = e } ≡ form_of c.args.notation d)) c.value.view_is
    (made_value c.args.notation old c.take_form.new.number c.magnitude_range-number.ensures.number c.take_form.result c.take_form.ensures.some)

pub returns-clause-none : goal.returns-clause-none
returns-clause-none c =
    let old : SignedValue Number = record { sign = c.value.inside.sign; absolute = c.value.inside.absolute } in
    subst (λ (d : SignedValue Number). IfNone c.take_form.result (¬ (below_form c.args.notation d.absolute.count ≡ 0))) c.value.view_is
    (made_none c.args.notation old c.take_form.new.number c.magnitude_range-number.ensures.number c.take_form.result c.take_form.ensures.none)
