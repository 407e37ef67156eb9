use Rattle.std.proofs.Common.{◌≡◌, ◌+◌, ◌<◌, ◌≤◌, length, subst}
use Rattle.std.specs.Int.{w16}
use Rattle.std.proofs.lemmas.Int.{to_z-of_z}
use Rattle.fixed_decimal_unsigned.specs.Shifts.{rise, fall}
use Rattle.fixed_decimal_unsigned.proofs.ShiftLemmas.{shifts_made}
use Rattle.fixed_decimal_unsigned.proofs.unsigned_decimal.UnsignedDecimal.multiply_pow10.Goals as goal

pub returns : goal.returns
returns c =
    let i = c.self.inside in
    let same = to_z-of_z w16 c.args.delta c.ranges.delta in
    shifts_made c.args.delta i.digits.items i.top i.low i.high c.moved_top-self-inside.result c.moved_place.result c.moved_place-2.result c.min-self-inside.result c.max-self-inside.result c.args.self.now
    c.self.invariant c.self.view_is
    (subst (λ z. fall z ≤ i.low + rise z) same (c.is_place_moved.ensures.within c.if-not-is_place_moved.false))
    (subst (λ z. i.high + rise z < 65536 + fall z) same (c.is_place_moved-2.ensures.below c.if-not-is_place_moved-2.false))
    (subst (λ z. 0 < length i.digits.items → c.moved_top-self-inside.result + fall z ≡ i.top + rise z) same c.moved_top-self-inside.ensures.some)
    (subst (λ z. c.moved_place.result + fall z ≡ i.low + rise z) same c.moved_place.ensures)
    (subst (λ z. c.moved_place-2.result + fall z ≡ i.high + rise z) same c.moved_place-2.ensures)
    c.min-self-inside.ensures c.max-self-inside.ensures
