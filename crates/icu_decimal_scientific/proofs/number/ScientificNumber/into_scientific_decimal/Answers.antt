use Rattle.std.proofs.Common.{◌∙◌, ap, rules, subst, sym, w32}
use Rattle.std.proofs.lemmas.Int.{to_z-of_z}
use Rattle.fixed_decimal.specs.ScientificText.{ScientificValue}
use Rattle.fixed_decimal.specs.WholeNumbers.{IsSignedWhole}
use Rattle.icu_decimal_scientific.specs.Scientific.{ScientificParts}
use Rattle.icu_decimal_scientific.proofs.number.ScientificNumber.into_scientific_decimal.Goals as goal

pub returns-clause-exponent : goal.returns-clause-exponent
returns-clause-exponent c =
    let seen = ap (λ (v : ScientificParts). v.exponent) c.self.view_is in
    let whole = subst (λ z. IsSignedWhole z c.in_ok-exponent.exponent) (to_z-of_z w32 c.self.inside.exponent (search rules) ∙ seen) c.in_ok-exponent.ensures.value in
    subst (IsSignedWhole c.args.self.exponent) (sym (ap (λ (v : ScientificValue). v.exponent) c.from.ensures)) whole
