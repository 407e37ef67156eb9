use Rattle.std.proofs.Common.{◌≡◌, ◌∙◌, ap, refl, rules, subst, w32}
use Rattle.std.proofs.lemmas.Int.{to_z-of_z}
use Rattle.fixed_decimal.specs.Number.{Number}
use Rattle.fixed_decimal.specs.SignedValue.{SignedValue}
use Rattle.icu_decimal_scientific.specs.Product.{HasProduct}
use Rattle.icu_decimal_scientific.specs.Scientific.{ScientificParts}
use Rattle.icu_decimal_scientific.proofs.number.ScientificNumber.into_decimal.Goals as goal

pub returns-then-not-is_decimal-clause-range : goal.returns-then-not-is_decimal-clause-range
returns-then-not-is_decimal-clause-range c =
    let exponent = to_z-of_z w32 c.self.inside.exponent (search rules) ∙ ap (λ (v : ScientificParts). v.exponent) c.self.view_is in
    let absolute : c.decimal.inside.absolute ≡ c.args.self.significand.absolute = ap (λ (v : SignedValue Number). v.absolute) c.decimal.view_is ∙ ap (λ (v : ScientificParts). v.significand.absolute) c.self.view_is in
    (λ _. subst (λ (n : Number). ¬ (HasProduct c.args.self.exponent n)) absolute (subst (λ x. ¬ (HasProduct x c.decimal.inside.absolute)) exponent (c.is_decimal.ensures.none c.if-not-is_decimal.true)), λ _. refl)
