use Rattle.std.proofs.Common.{◌≡◌, ◌∙◌, ℤ, ap, of_z, rules, subst, sym, to_z, w32}
use Rattle.std.proofs.lemmas.Int.{to_z-of_z}
use Rattle.fixed_decimal.specs.Number.{Number}
use Rattle.fixed_decimal.specs.ScientificText.{ScientificValue}
use Rattle.fixed_decimal.specs.SignedValue.{SignedValue}
use Rattle.icu_decimal_scientific.specs.NotationReading.{IsShownForm}
use Rattle.icu_decimal_scientific.specs.Steps.{IsFormExponent}
use Rattle.icu_decimal_scientific.proofs.NotationLemmas.{shown_form_is, shows_no_form}
use Rattle.icu_decimal_scientific.proofs.shown.ShownScientific.into_form.Goals as goal

pub returns-in-Some-clause-some : goal.returns-in-Some-clause-some
returns-in-Some-clause-some c =
    let e : ℤ = to_z w32 (of_z w32 c.in-Some.exponent) in
    let significand : c.self.inside.significand ≡ c.args.self.significand = ap (λ (v : ScientificValue). v.significand) c.self.view_is in
    let exponent : c.self.inside.exponent ≡ c.args.self.exponent = ap (λ (v : ScientificValue). v.exponent) c.self.view_is in
    let absolute : c.significand.inside.absolute ≡ c.args.self.significand.absolute = ap (λ (v : SignedValue Number). v.absolute) (c.significand.view_is ∙ significand) in
    let same : e ≡ c.in-Some.exponent = to_z-of_z w32 c.in-Some.exponent (search rules) in
    let is : IsFormExponent c.args.notation c.args.options c.significand.inside.absolute c.self.inside.exponent e =
    subst (IsFormExponent c.args.notation c.args.options c.significand.inside.absolute c.self.inside.exponent) (sym same) c.in-Some.ensures.some in
    subst (λ (d : SignedValue Number). IsShownForm c.args.notation c.args.options (record { significand = d; exponent = e }) c.args.self) (sym significand)
    (shown_form_is c.args.notation c.args.options c.args.self e
    (subst (λ (v : SignedValue Number). IsFormExponent c.args.notation c.args.options c.args.self.significand.absolute v e) exponent
    (subst (λ (n : Number). IsFormExponent c.args.notation c.args.options n c.self.inside.exponent e) absolute is)))

pub returns-in-None-clause-none : goal.returns-in-None-clause-none
returns-in-None-clause-none c =
    let significand : c.self.inside.significand ≡ c.args.self.significand = ap (λ (v : ScientificValue). v.significand) c.self.view_is in
    let exponent : c.self.inside.exponent ≡ c.args.self.exponent = ap (λ (v : ScientificValue). v.exponent) c.self.view_is in
    let absolute : c.significand.inside.absolute ≡ c.args.self.significand.absolute = ap (λ (v : SignedValue Number). v.absolute) (c.significand.view_is ∙ significand) in
    shows_no_form c.args.notation c.args.options c.args.self
    (subst (λ (v : SignedValue Number). (e : ℤ) → ¬ (IsFormExponent c.args.notation c.args.options c.args.self.significand.absolute v e)) exponent
    (subst (λ (n : Number). (e : ℤ) → ¬ (IsFormExponent c.args.notation c.args.options n c.self.inside.exponent e)) absolute c.in-None.ensures.none))
