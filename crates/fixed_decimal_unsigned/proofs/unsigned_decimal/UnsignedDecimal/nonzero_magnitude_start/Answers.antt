use Rattle.std.proofs.Common.{◌≡◌, arith, to_z, of_z}
use Rattle.std.proofs.lemmas.Int.{to_z-of_z}
use Rattle.std.specs.Int.{w16}
use Rattle.fixed_decimal_unsigned.specs.Number.{place}
use Rattle.fixed_decimal_unsigned.proofs.NonzeroLemmas.{start_of_zero, start_of_some}
use Rattle.fixed_decimal_unsigned.proofs.unsigned_decimal.UnsignedDecimal.nonzero_magnitude_start.Goals as goal

pub returns-clause-zero : goal.returns-clause-zero
returns-clause-zero c =
    let i = c.self.inside in let r = to_z w16 (of_z w16 c.magnitude_of.result) in
    let at : place r ≡ i.top = grind (arith, to_z-of_z, c.magnitude_of.ensures) in
    start_of_zero i.digits.items i.top i.low i.high c.self.invariant c.args.self.now c.self.view_is r at

pub returns-clause-value : goal.returns-clause-value
returns-clause-value c =
    let i = c.self.inside in let r = to_z w16 (of_z w16 c.magnitude_of.result) in
    let at : place r ≡ i.top = grind (arith, to_z-of_z, c.magnitude_of.ensures) in
    start_of_some i.digits.items i.top i.low i.high c.self.invariant c.args.self.now c.self.view_is r at
