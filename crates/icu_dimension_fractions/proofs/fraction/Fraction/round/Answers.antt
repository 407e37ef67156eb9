use Rattle.std.proofs.Common.{◌≡◌, ◌∙◌, ap, arith, of_z, subst, to_z, w16}
use Rattle.std.proofs.lemmas.Int.{to_z-of_z}
use Rattle.fixed_decimal.specs.Number.{Number, place}
use Rattle.fixed_decimal.specs.SignedValue.{SignedValue}
use Rattle.fixed_decimal.specs.Shifts.{PadsEnd}
use Rattle.icu_dimension_fractions.specs.Fractions.{last_place}
use Rattle.icu_dimension_fractions.proofs.FractionLemmas.{rounded_is}
use Rattle.icu_dimension_fractions.proofs.fraction.Fraction.round.Goals as goal

-- rounded, and then padded
pub returns-clause-value : goal.returns-clause-value
returns-clause-value c =
    let last = c.last_magnitude.result in
    let last_at : place (to_z w16 (of_z w16 last)) ≡ last_place c.args.self = grind (arith, to_z-of_z, c.last_magnitude.ensures) in
    let rounded = c.round_to_multiple.new.amount in
    let same = ap (λ (amount : SignedValue Number). amount.absolute) c.amount.view_is in
    let shown = c.pad_end.new.self in
    record {
      sign = ap (λ (amount : SignedValue Number). amount.sign) c.amount.view_is ∙ c.in_ok-round_to_multiple.ensures.sign;
      size = rounded_is c.args.self c.args.amount.now.absolute rounded.absolute shown c.in_ok-round_to_multiple.ensures.size
          (subst (λ middle. PadsEnd (last_place c.args.self) middle shown) same (subst (λ p. PadsEnd p c.amount.inside.absolute shown) last_at c.pad_end.ensures));
    }
