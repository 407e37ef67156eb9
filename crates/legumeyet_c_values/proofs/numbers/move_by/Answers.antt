use Rattle.std.proofs.Common.{◌≡◌, refl, ap, subst, sym, w16}
use Rattle.std.proofs.lemmas.Int.{to_z-of_z}
use Rattle.fixed_decimal.specs.Number.{Number}
use Rattle.fixed_decimal.specs.Shifts.{IsShifted, KeepsPlaces}
use Rattle.fixed_decimal.specs.SignedValue.{SignedValue}
use Rattle.legumeyet_c_values.proofs.numbers.move_by.Goals as goal

pub returns-then-keeps_places-clause-value : goal.returns-then-keeps_places-clause-value
returns-then-keeps_places-clause-value c =
    let exponent = to_z-of_z w16 c.args.exponent c.ranges.exponent in
    let same : c.whole.inside.absolute ≡ c.args.whole.now.absolute = ap (λ (v : SignedValue Number). v.absolute) c.whole.view_is in
    let keeps : KeepsPlaces c.args.exponent c.whole.inside.absolute = simp exponent at (c.keeps_places.ensures.within c.if-keeps_places.true) in
    let shifts = simp exponent at c.multiply_pow10.ensures in
    record {
      sign = ap (λ (v : SignedValue Number). v.sign) c.whole.view_is;
      absolute = subst (λ (n : Number). IsShifted c.args.exponent n c.multiply_pow10.new.self) same (shifts.within keeps);
    }

pub returns-else-keeps_places-clause-fault : goal.returns-else-keeps_places-clause-fault
returns-else-keeps_places-clause-fault c =
    let exponent = to_z-of_z w16 c.args.exponent c.ranges.exponent in
    let same : c.whole.inside.absolute ≡ c.args.whole.now.absolute = ap (λ (v : SignedValue Number). v.absolute) c.whole.view_is in
    let beyond : ¬ (KeepsPlaces c.args.exponent c.whole.inside.absolute) = simp exponent at (c.keeps_places.ensures.beyond c.if-keeps_places.false) in
    (refl, λ keeps. beyond (subst (λ (n : Number). KeepsPlaces c.args.exponent n) (sym same) keeps))
