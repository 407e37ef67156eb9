use Rattle.std.proofs.Common.{◌≡◌, arith}
use Rattle.std.proofs.lemmas.Int.{to_z-of_z}
use Rattle.fixed_decimal_unsigned.specs.Number.{place}
use Rattle.fixed_decimal_unsigned.proofs.ShiftLemmas.{pads_end}
use Rattle.fixed_decimal_unsigned.proofs.unsigned_decimal.UnsignedDecimal.pad_end.Goals as goal

pub returns-then-place-le-ONES : goal.returns-then-place-le-ONES
returns-then-place-le-ONES c =
    let i = c.self.inside in
    let at : c.place_of-place.result ≡ place c.args.position = grind (arith, to_z-of_z, c.place_of-place.ensures) in
    pads_end i.digits.items i.top i.low i.high c.end_below-self-inside.result c.place_of-place.result (place c.args.position) c.args.self.now c.self.invariant c.self.view_is at c.if-place-le-ONES.true c.end_below-self-inside.ensures
