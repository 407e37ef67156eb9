use Rattle.std.proofs.Common.{◌≡◌, ◌∙◌, ap, rules, subst, sym}
use Rattle.fixed_decimal.specs.Number.{IsNumber, Number}
use Rattle.fixed_decimal.specs.Rounding.{IsMultiple}
use Rattle.fixed_decimal.specs.SignedValue.{SignedValue}
use Rattle.icu_dimension_fractions.specs.Fractions.{last_place, step}
use Rattle.icu_dimension_fractions.proofs.FractionLemmas.{is_own, own_multiple}
use Rattle.icu_dimension_fractions.proofs.fraction.Fraction.is_rounded.Goals as goal

pub returns-then-start-last_magnitude : goal.returns-then-start-last_magnitude
returns-then-start-last_magnitude c =
    let f = c.args.self in
    let v = c.args.amount.now in
    let same = ap (λ (amount : SignedValue Number). amount.absolute) c.amount.view_is in
    let ends : c.amount.inside.absolute.low ≡ last_place f = search rules in
    let low : v.absolute.low ≡ last_place f = ap (λ (n : Number). n.low) (sym same) ∙ ends in (
      λ told. is_own f v (subst IsNumber same c.magnitude_range-range.ensures.number) low (subst (λ (n : Number). IsMultiple (step f) n.count) same (c.ends_in_multiple.ensures.0 told)),
      λ own. c.ends_in_multiple.ensures.1 (subst (λ (n : Number). IsMultiple (step f) n.count) (sym same) (own_multiple f v own)),
    )
