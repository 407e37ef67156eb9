use Rattle.std.proofs.Common.{◌≡◌, arith}
use Rattle.std.proofs.lemmas.Int.{to_z-of_z}
use Rattle.fixed_decimal_unsigned.specs.Number.{place}
use Rattle.fixed_decimal_unsigned.proofs.ShiftLemmas.{pads_start}
use Rattle.fixed_decimal_unsigned.proofs.unsigned_decimal.UnsignedDecimal.pad_start.Goals as goal

pub returns-then-place-gt-ONES : goal.returns-then-place-gt-ONES
returns-then-place-gt-ONES c =
    let i = c.self.inside in
    let at : c.place_of-place.result ≡ place c.args.position = grind (arith, to_z-of_z, c.place_of-place.ensures) in
    pads_start i.digits.items i.top i.low i.high c.max-self-inside.result c.place_of-place.result (place c.args.position) c.args.self.now c.self.invariant c.self.view_is at c.if-place-gt-ONES.true c.max-self-inside.ensures
